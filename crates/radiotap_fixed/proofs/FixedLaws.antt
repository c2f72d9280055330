-- The fixed header case by case, in the order 1, 3, 9, by the octet and the number that are read of it.
-- Assumes nothing.
use Prim.Native.Nat.{ℕ, ◌≤◌, ◌<◌}
use mathlib.Core.Path.{◌≡◌, sym, ap, ◌∙◌, subst}
use mathlib.Core.List.{List}
use lib.ListN.{length, get_or}
use borrow.Author.Tests.{lt-ltb, le-ltb, le-leb, lt-leb, eq-eqb, ne_eqb}
use Rattle.refusals.specs.Refusals.{refused, given, short_header, version}
use Rattle.radiotap_rules.specs.Reading.{radiotap_length, fixed_length, length_in, fixed_header}

module _ (s : List ℕ) where
  pub short : length s < fixed_length → fixed_header s ≡ refused short_header (length s)
  unfolding fixed_header
  short h = rw (lt-ltb (length s) fixed_length h)

  module _ (long : fixed_length ≤ length s) {first : ℕ} (octet : first ≡ get_or s 0 0) where
    pub other-version : (first ≡ 0 → ⊥) → fixed_header s ≡ refused version 0
    unfolding fixed_header
    other-version v = rw (le-ltb (length s) fixed_length long, ne_eqb (get_or s 0 0) 0 (λ e. v (octet ∙ e)))

    module _ (v : first ≡ 0) {size : ℕ} (number : size ≡ length_in s) where
      version_0 : get_or s 0 0 ≡ 0
      version_0 = sym octet ∙ v

      pub below : size < fixed_length → fixed_header s ≡ refused radiotap_length 2
      unfolding fixed_header
      below h =
          rw
          (le-ltb (length s) fixed_length long, eq-eqb (get_or s 0 0) 0 version_0, lt-leb fixed_length (length_in s) (subst (λ (n : ℕ). n < fixed_length) number h))

      module _ (whole : fixed_length ≤ size) where
        not_below : fixed_length ≤ length_in s
        not_below = subst (λ (n : ℕ). fixed_length ≤ n) number whole

        pub above : length s < size → fixed_header s ≡ refused radiotap_length 2
        unfolding fixed_header
        above h =
            rw
            (le-ltb (length s) fixed_length long, eq-eqb (get_or s 0 0) 0 version_0, le-leb fixed_length (length_in s) not_below, lt-leb (length_in s) (length s) (subst (λ (n : ℕ). length s < n) number h))

        pub inside : size ≤ length s → fixed_header s ≡ given size
        unfolding fixed_header
        inside h =
            rw
            (le-ltb (length s) fixed_length long, eq-eqb (get_or s 0 0) 0 version_0, le-leb fixed_length (length_in s) not_below, le-leb (length_in s) (length s) (subst (λ (n : ℕ). n ≤ length s) number h))
            (sym (ap given number))
