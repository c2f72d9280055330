-- Laws of the octets held in an array of 24, of which the first so many count.
-- Assumes nothing.
use Prim.Native.Nat.{ℕ, ◌+◌, ◌-◌, ◌≤◌}
use mathlib.Core.Path.{◌≡◌, sym, ap, ◌∙◌}
use mathlib.Core.List.{List, ◌++◌}
use native.Mathlib.Omega.{arith}
use native.Mathlib.Decide.{dec_le}
use native.Mathlib.Nat.{lt_of_not-le}
use borrow.Rule.Slice.PartMut.{put_mid}
use lib.ListN.{length, take, length-take}
use lib.Seq.{take_all, take-length, length-take-le, take-append-add}
use Rattle.std.specs.Prelude.{min}
use Rattle.std.proofs.lemmas.Slice.{take-put_mid}
use Rattle.btsnoop_rules.specs.Record.{record_length}

-- as many octets as are held are those that are held
pub front-held : (held : List ℕ) (count : ℕ) → take (length (take count held)) held ≡ take count held
front-held held count = go (dec_le count (length held))
  where
    go : Dec (count ≤ length held) → take (length (take count held)) held ≡ take count held
    go (yes h) = ap (λ (k : ℕ). take k held) (length-take-le count held h)
    go (no h) =
        let all : take count held ≡ held = take_all count held (omega (arith, lt_of_not-le h)) in
        ap (λ (k : ℕ). take k held) (ap length all) ∙ take-length held ∙ sym all

-- as many octets of a chunk as there is room for
most-taken : (c : List ℕ) (n room : ℕ) → n ≡ min (length c) room → take n c ≡ take room c
most-taken c n room least = go (dec_le (length c) room)
  where
    go : Dec (length c ≤ room) → take n c ≡ take room c
    go (yes h) = take_all n c (omega arith) ∙ sym (take_all room c h)
    go (no h) =
        let whole : n ≡ room = omega (arith, lt_of_not-le h) in
        ap (λ (k : ℕ). take k c) whole

-- put behind those held
pub front-filled : (held : List ℕ) (count : ℕ) → length held ≡ record_length
    → (c : List ℕ) (have n k : ℕ) (ys : List ℕ) → have ≡ length (take count held) → n ≡ min (length c) (record_length - have) → ys ≡ take n c
    → take (have + n) (put_mid have k held ys) ≡ take record_length (take count held ++ c)
front-filled held count long c have n k ys size least same =
    let h : List ℕ = take count held in
    let few : have ≤ record_length = omega (arith, length-take count held) in
    let put : length ys ≡ n = ap length same ∙ length-take-le n c (omega arith) in
    let room : length (take count held) + (record_length - length (take count held)) ≡ record_length = omega arith in
    take-put_mid have k held ys (have + n) (omega arith) (omega arith)
    ∙ ap (λ (j : ℕ). take j held ++ ys) size
    ∙ ap (λ (x : List ℕ). x ++ ys) (front-held held count)
    ∙ ap (λ (x : List ℕ). h ++ x) (same ∙ most-taken c n (record_length - have) least)
    ∙ ap (λ (j : ℕ). h ++ take (record_length - j) c) size
    ∙ sym (take-append-add h c (record_length - length h))
    ∙ ap (λ (j : ℕ). take j (h ++ c)) room
