-- The lines that are left of a walk from a place on, by what stands there.
-- Assumes nothing.
use Prim.Native.Nat.{ℕ, suc, ◌+◌, ◌-◌, ◌<◌}
use native.Mathlib.Omega.{arith}
use native.Mathlib.Nat.{add-zero, add-suc}
use mathlib.Core.Path.{◌≡◌, ap, ◌∙◌}
use mathlib.Core.List.{List, ◌++◌, append_assoc}
use lib.ListN.{length}
use Rattle.refusals.specs.Refusals.{Answer, refused, given}
use Rattle.octets.specs.Parts.{part}
use Rattle.tiling.specs.Tiling.{Walk, pass, stop, Ending, ended, broken, items, ending, onward, walk}
use Rattle.btsnoop_rules.specs.declared.Numbers.{Numbers}
use Rattle.btsnoop_rules.specs.Header.{header_length}
use Rattle.btsnoop_rules.specs.Record.{Found, end, whole, Record, record_at, step_on, record_step}
use Rattle.btsnoop_rules.specs.File.{file_walk}
use Rattle.listing_rules.specs.Lines.{record_line, record_lines, last_line, stop_line, end_line, walk_lines}

-- the lines that are left from a place on, behind so many records
abbrev pub left : List ℕ → (place count : ℕ) → List ℕ
left s place count = walk_lines count (walk (record_step s) (length s - count) place)

-- the lines of a walk that stops at once, and of one that passes a record
lines_stop : (count : ℕ) (e : Ending) → walk_lines count (stop e) ≡ last_line count e
lines_stop count e = ap (λ (k : ℕ). last_line k e) (add-zero count)

lines_pass : (count place : ℕ) (r : Record) (w : Walk Record)
    → walk_lines count (pass place r w) ≡ record_line place r.numbers ++ walk_lines (count + 1) w
lines_pass count place r w =
    let e : count + suc (length (items w)) ≡ count + 1 + length (items w) = add-suc count (length (items w)) ∙ omega arith in
    append_assoc (record_line place r.numbers) (record_lines (items w)) (last_line (count + suc (length (items w))) (ending w))
    ∙ ap (λ (k : ℕ). record_line place r.numbers ++ (record_lines (items w) ++ last_line k (ending w))) e

module _ (s : List ℕ) where
  -- all are left behind the header
  pub left-all : left s header_length 0 ≡ walk_lines 0 (file_walk s)
  unfolding file_walk
  left-all = ap (λ (k : ℕ). walk_lines 0 (walk (record_step s) k header_length)) all
    where
      all : length s - 0 ≡ length s
      all = omega arith

  module _ (place count : ℕ) (few : count < length s) where
    -- the walk goes by what stands at the place
    onward_at : {x : Answer Found} → record_at s place ≡ x
        → left s place count ≡ walk_lines count (onward place (walk (record_step s) (length s - (count + 1))) (step_on s x))
    onward_at e =
        let one : length s - count ≡ suc (length s - (count + 1)) = omega arith in
        ap (λ (k : ℕ). walk_lines count (walk (record_step s) k place)) one
        ∙ ap (λ (x : Answer Found). walk_lines count (onward place (walk (record_step s) (length s - (count + 1))) (step_on s x))) e

    pub left-refused : {n q : ℕ} → record_at s place ≡ refused n q → left s place count ≡ stop_line n q
    left-refused {n} {q} e = onward_at e ∙ lines_stop count (broken n q)

    pub left_end : record_at s place ≡ given end → left s place count ≡ end_line count
    left_end e = onward_at e ∙ lines_stop count (ended place)

    pub left-whole : {n : Numbers} {packet q : ℕ} → record_at s place ≡ given (whole n packet q)
        → left s place count ≡ record_line place n ++ left s q (count + 1)
    left-whole {n} {packet} {q} e =
        onward_at e
        ∙ lines_pass count place (record { numbers = n; packet = part s packet n.included })
        (walk (record_step s) (length s - (count + 1)) q)
