-- The file header of which octets are held, and the rest is in a chunk.
-- Assumes nothing.
use Prim.Native.Nat.{ℕ, ◌+◌, ◌-◌, ◌≤◌, ◌<◌}
use mathlib.Core.Path.{◌≡◌, sym, ap, ◌∙◌}
use mathlib.Core.List.{List, ◌++◌}
use native.Mathlib.Omega.{arith}
use lib.ListN.{length, take, length-append}
use lib.Seq.{take_all, length-take-le}
use Rattle.btsnoop_rules.specs.Header.{header_length, header_at, header_judged}
use Rattle.btsnoop_rules.specs.Record.{record_length}
use Rattle.btsnoop_rules.proofs.HeaderLaws.{header-judged}
use Rattle.stream_rules.specs.Stream.{most_octets, long_stream, nothing, in_header, outcome, refuses, header_taken, take_header, take_at}
use Rattle.stream_state.proofs.Cases.{within-limit, within_past, header-more, header-full}

module _ (octets : ℕ) (h c : List ℕ) where
  -- a chunk past the longest stream
  pub past : most_octets < octets + length c → refuses octets long_stream 0 ≡ take_at (in_header octets h) c
  unfolding take_at
  past long = sym (within_past octets c (take_header octets h c) long)

  -- one inside it
  module _ (short : octets + length c ≤ most_octets) where
    inside : take_header octets h c ≡ take_at (in_header octets h) c
    unfolding take_at
    inside = sym (within-limit octets c (take_header octets h c) short)

    -- the header does not end in it: what is held then, at most 24 octets, is all that came
    pub waits : (held : List ℕ) → held ≡ take record_length (h ++ c) → length h + length c < header_length
        → outcome (length c) nothing (in_header (octets + length c) held) ≡ take_at (in_header octets h) c
    waits held all more =
        ap (λ (x : List ℕ). outcome (length c) nothing (in_header (octets + length c) x))
        (all ∙ take_all record_length (h ++ c) (omega (arith, length-append h c)))
        ∙ sym (header-more octets h c more)
        ∙ inside

    -- it ends in it, behind so many octets, and is judged as it is read
    pub read : (k : ℕ) → k ≡ header_length - length h → k ≤ length c → length h ≤ record_length
        → (whole : List ℕ) → whole ≡ take record_length (h ++ take k c)
        → header_taken octets k (header_at whole) ≡ take_at (in_header octets h) c
    read k need enough few whole all =
        let size : length (h ++ take k c) ≡ length h + k =
        length-append h (take k c) ∙ ap (λ (n : ℕ). length h + n) (length-take-le k c enough) in
        let is : whole ≡ h ++ take k c = all ∙ take_all record_length (h ++ take k c) (omega (arith, size)) in
        let judged : header_at whole ≡ header_judged (h ++ take k c) =
        ap header_at is ∙ header-judged (h ++ take k c) (omega (arith, size)) in
        ap (header_taken octets k) judged
        ∙ ap (λ (n : ℕ). header_taken octets n (header_judged (h ++ take n c))) need
        ∙ sym (header-full octets h c (omega arith))
        ∙ inside
