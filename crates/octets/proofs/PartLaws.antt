-- Laws of parts, splices and of octets put into an output.
-- Assumes nothing.
use Prim.Native.Nat.{ℕ, zero, suc, ◌+◌, ◌-◌, ◌≤◌, ◌<◌}
use mathlib.Core.Path.{◌≡◌, refl, sym, ap, ◌∙◌}
use mathlib.Core.Bool.{Bool, cond}
use mathlib.Core.Logic.{◌⊎◌, inl, inr}
use mathlib.Core.List.{List, [], ◌++◌, append_assoc, append-nil}
use native.Mathlib.Omega.{arith}
use native.Mathlib.Nat.{add-zero, add-suc, lt_of_not-le}
use native.Mathlib.Decide.{dec_le}
use lib.ListN.{length, take, drop, get_or, get_or-append, length-append, length-drop, drop_of_length-le, take-append-drop}
use lib.Seq.{drop-cons, take_all, take-nil, take_at, drop_at, take-length, drop-append-add, length-take-le, drop-drop, get_or-append-add, get_or-take, get_or-drop, paste, length-paste}
use borrow.Author.Tests.{le-leb, lt-leb}
use Rattle.octets.specs.Numbers.{octets_after}
use Rattle.octets.specs.Parts.{part, splice, put}

-- past the end a part is empty
pub part_past : (s : List ℕ) (at n : ℕ) → length s ≤ at → part s at n ≡ []
unfolding part
part_past s at n h = ap (take n) (drop_of_length-le s h) ∙ take-nil n

-- a part that the input's end cuts is the rest of the input
pub part-rest : (s : List ℕ) (at n : ℕ) → length s - at ≤ n → part s at n ≡ take (length s - at) (drop at s)
unfolding part
part-rest s at n h =
    let long : length (drop at s) ≡ length s - at = length-drop at s in
    take_all n (drop at s) (omega arith) ∙ sym (take_all (length s - at) (drop at s) (omega arith))

-- how long a part is that lies inside the input
pub length_part : (s : List ℕ) (at n : ℕ) → at + n ≤ length s → length (part s at n) ≡ n
unfolding part
length_part s at n h = length-take-le n (drop at s) (omega (arith, length-drop at s))

-- with room, the octets are spliced in
pub put-room : (out : List ℕ) (at : ℕ) (xs : List ℕ) → at + length xs ≤ length out → put out at xs ≡ splice out at xs
unfolding put
put-room out at xs h = ap (λ (t : Bool). cond t (splice out at xs) out) (le-leb _ _ h)

-- without room, nothing changes
pub put-none : (out : List ℕ) (at : ℕ) (xs : List ℕ) → length out < at + length xs → put out at xs ≡ out
unfolding put
put-none out at xs h = ap (λ (t : Bool). cond t (splice out at xs) out) (lt-leb _ _ h)

-- a splice is the library's paste of all the octets
pub splice-paste : (out : List ℕ) (at : ℕ) (xs : List ℕ) → splice out at xs ≡ paste out at xs (length xs)
unfolding splice
splice-paste out at xs = ap (λ (ys : List ℕ). take at out ++ ys ++ drop (at + length xs) out) (sym (take-length xs))

-- an output keeps its length
pub length-splice : (out : List ℕ) (at : ℕ) (xs : List ℕ) → at + length xs ≤ length out → length (splice out at xs) ≡ length out
length-splice out at xs h = ap length (splice-paste out at xs) ∙ length-paste out at xs (length xs) h (omega arith)

-- no octets spliced in leave an output as it was
pub splice-none : (out : List ℕ) (at : ℕ) → splice out at [] ≡ out
unfolding splice
splice-none out at = rw (append-nil (take at out), add-zero at) (take-append-drop at out)

-- before octets that are spliced in, an output is as it was
pub splice-before : (out : List ℕ) (at : ℕ) (xs : List ℕ) → at ≤ length out → take at (splice out at xs) ≡ take at out
unfolding splice
splice-before out at xs h =
    let rest : List ℕ = drop (at + length xs) out in
    ap (take at) (append_assoc (take at out) xs rest) ∙ take_at (take at out) (xs ++ rest) at (length-take-le at out h)

-- and behind them
pub splice-behind : (out : List ℕ) (at : ℕ) (xs : List ℕ) → at ≤ length out
    → drop (at + length xs) (splice out at xs) ≡ drop (at + length xs) out
unfolding splice
splice-behind out at xs h =
    drop_at (take at out ++ xs) (drop (at + length xs) out) (at + length xs)
    (omega (arith, length-append (take at out) xs, length-take-le at out h))

-- an output keeps its length, put into or not
pub length-put : (out : List ℕ) (at : ℕ) (xs : List ℕ) → length (put out at xs) ≡ length out
length-put out at xs = go (dec_le (at + length xs) (length out))
  where
    go : Dec (at + length xs ≤ length out) → length (put out at xs) ≡ length out
    go (yes h) = ap length (put-room out at xs h) ∙ length-splice out at xs h
    go (no h) = ap length (put-none out at xs (lt_of_not-le h))

-- octets written into an output leave the others
splice-elsewhere : (out : List ℕ) (at : ℕ) (xs : List ℕ) (i : ℕ) → at + length xs ≤ length out → (i < at) ⊎ (at + length xs ≤ i)
    → get_or (splice out at xs) i 0 ≡ get_or out i 0
unfolding splice
splice-elsewhere out at xs i room (inl low) =
    let front : length (take at out) ≡ at = length-take-le at out (omega arith) in
    let both : length (take at out ++ xs) ≡ length (take at out) + length xs = length-append (take at out) xs in
    get_or-append (take at out ++ xs) (drop (at + length xs) out) 0 i (omega arith)
    ∙ get_or-append (take at out) xs 0 i (omega arith)
    ∙ get_or-take at out i 0 low
splice-elsewhere out at xs i room (inr high) =
    let front : length (take at out) ≡ at = length-take-le at out (omega arith) in
    let both : length (take at out ++ xs) ≡ length (take at out) + length xs = length-append (take at out) xs in
    let back : List ℕ = drop (at + length xs) out in
    let k : ℕ = i - (at + length xs) in
    let here : i ≡ length (take at out ++ xs) + k = omega arith in
    let there : at + length xs + k ≡ i = omega arith in
    ap (λ (j : ℕ). get_or (take at out ++ xs ++ back) j 0) here
    ∙ get_or-append-add (take at out ++ xs) back k 0
    ∙ get_or-drop (at + length xs) out k 0
    ∙ ap (λ (j : ℕ). get_or out j 0) there

-- so do octets put into it, with room or without
pub put-elsewhere : (out : List ℕ) (at : ℕ) (xs : List ℕ) (i : ℕ) → (i < at) ⊎ (at + length xs ≤ i) → get_or (put out at xs) i 0 ≡ get_or out i 0
put-elsewhere out at xs i other = go (dec_le (at + length xs) (length out))
  where
    go : Dec (at + length xs ≤ length out) → get_or (put out at xs) i 0 ≡ get_or out i 0
    go (yes h) = ap (λ (l : List ℕ). get_or l i 0) (put-room out at xs h) ∙ splice-elsewhere out at xs i h other
    go (no h) = ap (λ (l : List ℕ). get_or l i 0) (put-none out at xs (lt_of_not-le h))

-- what stands before the end of the written octets, and how long it is
head-long : (out : List ℕ) (at : ℕ) (xs : List ℕ) → at ≤ length out → length (take at out ++ xs) ≡ at + length xs
head-long out at xs h = length-append (take at out) xs ∙ ap (λ (k : ℕ). k + length xs) (length-take-le at out h)

-- the octets that were written stand at their place
pub part-splice : (out : List ℕ) (at : ℕ) (xs : List ℕ) → at ≤ length out → part (splice out at xs) at (length xs) ≡ xs
unfolding part splice
part-splice out at xs h =
    let rest : List ℕ = drop (at + length xs) out in
    ap (λ (l : List ℕ). take (length xs) (drop at l)) (append_assoc (take at out) xs rest)
    ∙ ap (take (length xs)) (drop_at (take at out) (xs ++ rest) at (length-take-le at out h))
    ∙ take_at xs rest (length xs) refl

-- two writes, the second where the first ends, are one
pub splice-splice : (out : List ℕ) (at : ℕ) (xs ys : List ℕ) → at ≤ length out
    → splice (splice out at xs) (at + length xs) ys ≡ splice out at (xs ++ ys)
unfolding splice
splice-splice out at xs ys h =
    let head : List ℕ = take at out ++ xs in
    let rest : List ℕ = drop (at + length xs) out in
    let long : length head ≡ at + length xs = head-long out at xs h in
    let front : take (at + length xs) (head ++ rest) ≡ head = take_at head rest (at + length xs) long in
    let sum : at + length xs + length ys ≡ at + length (xs ++ ys) = omega (arith, length-append xs ys) in
    let back : drop (at + length xs + length ys) (head ++ rest) ≡ drop (at + length (xs ++ ys)) out =
    ap (λ (k : ℕ). drop (k + length ys) (head ++ rest)) (sym long)
    ∙ drop-append-add head rest (length ys)
    ∙ drop-drop (length ys) (at + length xs) out
    ∙ ap (λ (k : ℕ). drop k out) sum in
    ap (λ (l : List ℕ). l ++ ys ++ drop (at + length xs + length ys) (head ++ rest)) front
    ∙ ap (λ (l : List ℕ). head ++ ys ++ l) back
    ∙ ap (λ (l : List ℕ). l ++ drop (at + length (xs ++ ys)) out) (append_assoc (take at out) xs ys)

-- the same by the length of the first
module _ (out : List ℕ) (at n : ℕ) (xs : List ℕ) (long : length xs ≡ n) where
  -- a splice where another ends
  pub splice_next : (ys : List ℕ) → at ≤ length out → splice (splice out at xs) (at + n) ys ≡ splice out at (xs ++ ys)
  splice_next ys h = rw (← long) (splice-splice out at xs ys h)

  -- octets put where a splice ends
  pub put_next : (ys : List ℕ) → at + n + length ys ≤ length out → put (splice out at xs) (at + n) ys ≡ splice out at (xs ++ ys)
  put_next ys h =
      let same : length (splice out at xs) ≡ length out = length-splice out at xs (omega arith) in
      put-room (splice out at xs) (at + n) ys (omega arith) ∙ splice_next ys (omega arith)

-- inside the input, octets read one by one are a part of it
pub octets-part : (s : List ℕ) (at after n : ℕ) → at + after + n ≤ length s → octets_after s at after n ≡ part s (at + after) n
unfolding part
octets-part s at after zero h = refl
octets-part s at after (suc n) h =
    let inside : at + after < length s = omega arith in
    let rest : at + suc after + n ≤ length s = omega arith in
    let e : octets_after s at (suc after) n ≡ take n (drop (at + suc after) s) = octets-part s at (suc after) n rest in
    rw (drop-cons s (at + after) 0 inside, e, add-suc at after)
