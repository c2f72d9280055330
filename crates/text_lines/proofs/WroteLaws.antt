-- Laws of octets written into an output: one write, and a write behind another.
-- Assumes nothing.
use Prim.Native.Nat.{ℕ, ◌+◌, ◌≤◌, ◌<◌}
use native.Mathlib.Omega.{arith}
use mathlib.Core.Path.{◌≡◌, ap, ◌∙◌}
use mathlib.Core.Logic.{◌⊎◌, inl, inr}
use mathlib.Core.List.{List, ◌++◌}
use lib.ListN.{length, get_or, length-append}
use Rattle.octets.specs.Parts.{put, splice}
use Rattle.octets.proofs.PartLaws.{put-room, length-put, put-elsewhere, splice-splice}
use Rattle.text_lines.specs.Wrote.{highest_place, place_behind, Wrote}

-- the place behind is the sum where no place is passed
pub exact : (at n : ℕ) {next : ℕ} → next ≡ place_behind at n → at + n ≤ highest_place → next ≡ at + n
exact at n e fits = omega arith

-- an output that is what a put leaves, and the place behind it
pub wrote_is : {before after : List ℕ} {at next : ℕ} {xs : List ℕ}
    → after ≡ put before at xs → next ≡ place_behind at (length xs) → at ≤ next → Wrote before at xs after next
wrote_is {before} {after} {at} {next} {xs} e n onward =
    record {
      behind = n;
      onward = onward;
      long = ap length e ∙ length-put before at xs;
      holds = λ low room. e ∙ put-room before at xs room;
      elsewhere = λ i other. ap (λ (l : List ℕ). get_or l i 0) e ∙ put-elsewhere before at xs i other;
    }

-- what is written behind other octets
pub wrote_then : {before between after : List ℕ} {at middle next : ℕ} {xs ys : List ℕ}
    → Wrote before at xs between middle → Wrote between middle ys after next → Wrote before at (xs ++ ys) after next
wrote_then {before} {between} {after} {at} {middle} {next} {xs} {ys} first second =
    let sum : length (xs ++ ys) ≡ length xs + length ys = length-append xs ys in
    let long : length between ≡ length before = first.long in
    let m : middle ≡ place_behind at (length xs) = first.behind in
    let n : next ≡ place_behind middle (length ys) = second.behind in
    record {
      behind = omega arith;
      onward = omega (arith, first.onward, second.onward);
      long = second.long ∙ first.long;
      holds = λ low room.
          let one : middle ≡ at + length xs = exact at (length xs) m (omega arith) in
          second.holds (omega arith) (omega arith)
          ∙ ap (λ (out : List ℕ). splice out middle ys) (first.holds (omega arith) (omega arith))
          ∙ ap (λ (k : ℕ). splice (splice before at xs) k ys) one
          ∙ splice-splice before at xs ys (omega arith);
      elsewhere = λ i other. second.elsewhere i (later i other) ∙ first.elsewhere i (sooner i other);
    }
  where
    later : (i : ℕ) → (i < at) ⊎ (at + length (xs ++ ys) ≤ i) → (i < middle) ⊎ (middle + length ys ≤ i)
    later i (inl low) = inl (omega (arith, first.onward))
    later i (inr high) = inr (omega (arith, first.behind, length-append xs ys))

    sooner : (i : ℕ) → (i < at) ⊎ (at + length (xs ++ ys) ≤ i) → (i < at) ⊎ (at + length xs ≤ i)
    sooner i (inl low) = inl low
    sooner i (inr high) = inr (omega (arith, length-append xs ys))

-- a text that is put behind other octets
pub wrote_text : {before between after : List ℕ} {at middle size next : ℕ} {xs : List ℕ} (text : List ℕ)
    → Wrote before at xs between middle → after ≡ put between middle text → size ≡ length text
    → next ≡ place_behind middle size → middle ≤ next → Wrote before at (xs ++ text) after next
wrote_text {middle} text first e n b onward = wrote_then first (wrote_is e (b ∙ ap (place_behind middle) n) onward)
