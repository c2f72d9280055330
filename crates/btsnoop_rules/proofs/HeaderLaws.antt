-- Case laws of the file header, and that its identification octets may be compared as one number.
-- Assumes nothing.
use Prim.Native.Nat.{ℕ, ◌≤◌, ◌<◌}
use mathlib.Core.Path.{◌≡◌, refl, sym, ap, ◌∙◌}
use mathlib.Core.Bool.{true, false}
use mathlib.Core.List.{List}
use lib.ListN.{length, get_or}
use lib.Dec.{lit<}
use borrow.Author.Tests.{le-leb}
use native.Mathlib.Omega.{arith}
use native.Mathlib.Nat.{lt_of_not-le}
use native.Mathlib.Decide.{dec_le}
use Rattle.refusals.specs.Refusals.{refused, given, short_header, identification, version, datalink}
use Rattle.octets.specs.Numbers.{Order, big, number, octets_of, octets_at, number_at, Octets}
use Rattle.octets.proofs.Laws.{write_after_read, all-octets, octets_after_lem}
use Rattle.btsnoop_rules.specs.Header.{header_length, identification_octets, version_number, served, header_judged, header_at}
use Rattle.btsnoop_rules.proofs.Orders.{header-judged-exactly, header_read_exactly}

-- octets with the same number are the same
same_number : (o : Order) (xs ys : List ℕ) → Octets xs → Octets ys → length xs ≡ length ys → number o xs ≡ number o ys → xs ≡ ys
same_number o xs ys hx hy l e =
    sym (write_after_read o xs hx) ∙ ap (λ (w : ℕ). octets_of o w (number o xs)) l ∙ ap (octets_of o (length ys)) e ∙ write_after_read o ys hy

-- the identification octets, compared as one number
abbrev pub identification_number : ℕ
identification_number = 0x6274736e6f6f7000

is_identification : number big identification_octets ≡ identification_number
unfolding number
is_identification = refl

identification-octets : Octets identification_octets
identification-octets = (lit< tt, (lit< tt, (lit< tt, (lit< tt, (lit< tt, (lit< tt, (lit< tt, (lit< tt, tt))))))))

module _ (s : List ℕ) where
  pub identified : ((i : ℕ) → get_or s i 0 < 256) → number_at big 8 s 0 ≡ identification_number → octets_at s 0 8 ≡ identification_octets
  unfolding number_at
  identified h e =
      same_number big (octets_at s 0 8) identification_octets (octets_after_lem s 0 0 8 (all-octets s h)) identification-octets refl
      (e ∙ sym is_identification)

  pub not_identified : (number_at big 8 s 0 ≡ identification_number → ⊥) → octets_at s 0 8 ≡ identification_octets → ⊥
  unfolding number_at
  not_identified h e = h (ap (number big) e ∙ is_identification)

  pub header-short : length s < header_length → header_at s ≡ refused short_header (length s)
  header-short h = (header_read_exactly s).here.1 h

  pub header-judged : header_length ≤ length s → header_at s ≡ header_judged s
  unfolding header_at
  header-judged h = rw (le-leb header_length (length s) h)

  -- an accepted header is there whole
  pub header-long : (code : ℕ) → header_at s ≡ given code → header_length ≤ length s
  header-long code e = go (dec_le header_length (length s))
    where
      go : Dec (header_length ≤ length s) → header_length ≤ length s
      go (yes h) = h
      go (no h) = let z : ◌≡◌ {A = ℕ} 0 1 = cc (header-short (lt_of_not-le h)) in absurd (omega arith)

  -- the judgement's cases, from the test of the identification octets on
  pub judged-other : (octets_at s 0 8 ≡ identification_octets → ⊥) → header_judged s ≡ refused identification 0
  judged-other h = (header-judged-exactly s).here.1 h

  module _ (same : octets_at s 0 8 ≡ identification_octets) where
    pub judged-version : (number_at big 4 s 8 ≡ version_number → ⊥) → header_judged s ≡ refused version 8
    judged-version h = ((header-judged-exactly s).otherwise (λ f. f same)).here.1 h

    pub judged-datalink : number_at big 4 s 8 ≡ version_number → served (number_at big 4 s 12) ≡ false → header_judged s ≡ refused datalink 12
    judged-datalink v d = (((header-judged-exactly s).otherwise (λ f. f same)).otherwise (λ f. f v)).here.1 d

    pub judged-code : number_at big 4 s 8 ≡ version_number → served (number_at big 4 s 12) ≡ true → header_judged s ≡ given (number_at big 4 s 12)
    judged-code v d =
        (((header-judged-exactly s).otherwise (λ f. f same)).otherwise (λ f. f v)
        ).otherwise (λ e. let z : ◌≡◌ {A = ℕ} 0 1 = cc in omega arith)
