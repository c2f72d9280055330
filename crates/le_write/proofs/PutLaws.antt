-- Octets put one behind the other are one splice: the parts of a pseudo-header, and the packet behind it.
-- Assumes nothing.
use Prim.Native.Nat.{ℕ, ◌+◌, ◌≤◌}
use mathlib.Core.Path.{◌≡◌, refl, ◌∙◌}
use mathlib.Core.List.{List, [], ◌∷◌, ◌++◌}
use lib.ListN.{length, length-append}
use native.Mathlib.Omega.{arith}
use Rattle.octets.specs.Numbers.{little, octets_of}
use Rattle.octets.specs.Signed.{unsigned}
use Rattle.octets.specs.Parts.{splice, put}
use Rattle.octets.proofs.Fields.{length-octets_of}
use Rattle.octets.proofs.PartLaws.{put-room, put_next}
use Rattle.le_rules.specs.declared.Values.{Values}
use Rattle.le_rules.specs.Reading.{header_length}
use Rattle.le_rules.specs.Writing.{header_octets, octets_for}

-- the four values of one octet each
abbrev pub single_octets : Values → List ℕ
single_octets v = v.channel ∷ unsigned 8 v.signal ∷ unsigned 8 v.noise ∷ v.offences ∷ []

header-long : (v : Values) → length (header_octets v) ≡ header_length
unfolding header_octets
header-long v = simp (length-append, length-octets_of)

module _ (out : List ℕ) (at : ℕ) (v : Values) where
  -- the reference address behind the single octets, and the flags behind it
  pub header_parts : {l m p : List ℕ} → at + header_length ≤ length out → l ≡ put out at (single_octets v)
      → m ≡ put l (at + 4) (octets_of little 4 v.reference) → p ≡ put m (at + 8) (octets_of little 2 v.flags)
      → p ≡ splice out at (header_octets v)
  unfolding header_octets
  header_parts {l} {m} {p} h el em ep =
      let reference : List ℕ = octets_of little 4 v.reference in
      let flags : List ℕ = octets_of little 2 v.flags in
      let front : List ℕ = single_octets v ++ reference in
      let four : length reference ≡ 4 = length-octets_of little 4 v.reference in
      let two : length flags ≡ 2 = length-octets_of little 2 v.flags in
      let eight : length front ≡ 8 = omega (arith, four) in
      let first : l ≡ splice out at (single_octets v) = el ∙ put-room out at (single_octets v) (omega arith) in
      let second : m ≡ splice out at front = em ∙ rw first (put_next out at 4 (single_octets v) refl reference (omega arith)) in
      ep ∙ rw second (put_next out at 8 front eight flags (omega arith))

  -- the packet behind the header
  pub packet-behind : {l m : List ℕ} (packet : List ℕ) → at + (header_length + length packet) ≤ length out
      → l ≡ splice out at (header_octets v) → m ≡ put l (at + header_length) packet
      → m ≡ splice out at (octets_for v packet)
  packet-behind {l} {m} packet h el em =
      em ∙ rw el (put_next out at header_length (header_octets v) (header-long v) packet (omega arith))
