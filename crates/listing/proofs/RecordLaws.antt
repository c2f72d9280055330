-- What a listing has written so far, and how each answer of the record reader carries it on.
-- Assumes nothing.
use Prim.Native.Nat.{ℕ, ◌+◌, ◌*◌, ◌≤◌, ◌<◌}
use native.Mathlib.Omega.{arith}
use mathlib.Core.Path.{◌≡◌, refl, ap, subst, ◌∙◌}
use mathlib.Core.List.{List, ◌++◌}
use lib.ListN.{length}
use Rattle.refusals.specs.Refusals.{refused, given}
use Rattle.octets.specs.Parts.{part}
use Rattle.btsnoop_rules.specs.declared.Numbers.{Numbers}
use Rattle.btsnoop_rules.specs.Header.{header_length}
use Rattle.btsnoop_rules.specs.Record.{record_length, end, whole, record_at, step_on}
use Rattle.btsnoop_rules.specs.File.{file_walk}
use Rattle.btsnoop_rules.proofs.Files.{whole-exactly}
use Rattle.listing_rules.specs.Lines.{record_line, stop_line, end_line, walk_lines}
use Rattle.listing_rules.proofs.WalkLaws.{left, left-all, left-refused, left_end, left-whole}
use Rattle.text_lines.specs.declared.Lines.{Lines}
use Rattle.text_lines.specs.Wrote.{Wrote, Appends}
use Rattle.text_lines.proofs.WroteLaws.{wrote_then}
use Rattle.listing.specs.Listed.{Lacks}

-- the most octets of a record's line
abbrev pub line_most : ℕ
line_most = 192

-- what lacks octets that are others
lacks_as : (before now : Lines) {all xs ys : List ℕ} → xs ≡ ys → Lacks before all now xs → Lacks before all now ys
lacks_as before now {all} e l = subst (Lacks before all now) e l

-- what lacks octets that begin with some, once these are written
lacks_then : (before now next : Lines) {all xs ys : List ℕ} → Appends now xs next → Lacks before all now (xs ++ ys)
    → Lacks before all next ys
lacks_then before now next w l after behind rest = l after behind (wrote_then w rest)

-- so many records are listed, up to a place: what is left completes the lines of the whole walk
pub record Listed (s : List ℕ) (before now : Lines) (place count : ℕ) : Type 0 where
  pub same : now.output.ghost_name ≡ before.output.ghost_name
  pub low : header_length + record_length * count ≤ place
  pub high : place ≤ length s
  pub short : now.at ≤ before.at + line_most * count
  pub whole : Lacks before (walk_lines 0 (file_walk s)) now (left s place count)

module _ (s : List ℕ) (before : Lines) where
  pub start : header_length ≤ length s → Listed s before before header_length 0
  start h =
      record {
        same = refl;
        low = omega arith;
        high = h;
        short = omega arith;
        whole = λ after behind w. subst (λ (xs : List ℕ). Wrote before.output.now before.at xs after behind) (left-all s) w;
      }

  module _ {now : Lines} {place count : ℕ} (f : Listed s before now place count) where
    few : count < length s
    few = omega (arith, f.low, f.high)

    pub refuses : {n q : ℕ} → record_at s place ≡ refused n q → Lacks before (walk_lines 0 (file_walk s)) now (stop_line n q)
    refuses e = lacks_as before now (left-refused s place count few e) f.whole

    pub ends : record_at s place ≡ given end → Lacks before (walk_lines 0 (file_walk s)) now (end_line count)
    ends e = lacks_as before now (left_end s place count few e) f.whole

    pub passes : {n : Numbers} {packet q : ℕ} {next : Lines} → record_at s place ≡ given (whole n packet q)
        → next.output.ghost_name ≡ now.output.ghost_name → Appends now (record_line place n) next → next.at ≤ now.at + line_most
        → Listed s before next q (count + 1)
    passes {n} {packet} {q} {next} e same w most =
        let lies = (whole-exactly s place (record { numbers = n; packet = part s packet n.included }) q).lies (ap (step_on s) e) in
        record {
          same = same ∙ f.same;
          low = omega (arith, f.low, lies.next);
          high = lies.inside;
          short = omega (arith, f.short);
          whole = lacks_then before now next w (lacks_as before now (left-whole s place count few e) f.whole);
        }
