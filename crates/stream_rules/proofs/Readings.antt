-- What is to be told of a stream from a record's start on: the walk of the record reader from there.
-- Assumes nothing.
use Prim.Native.Nat.{ℕ, zero, suc, ◌+◌, ◌-◌, ◌≤◌, ◌<◌}
use mathlib.Core.Path.{◌≡◌, refl, ap, ◌∙◌}
use mathlib.Core.List.{List, []}
use native.Mathlib.Omega.{arith}
use lib.ListN.{length}
use Rattle.refusals.specs.Refusals.{refused, given}
use Rattle.octets.specs.Parts.{part}
use Rattle.tiling.specs.Tiling.{Next, stop, ended, broken, walk}
use Rattle.btsnoop_rules.specs.declared.Numbers.{Numbers}
use Rattle.btsnoop_rules.specs.Header.{header_length}
use Rattle.btsnoop_rules.specs.Record.{record_length, numbers_at, end, record_judged, record_at, Record, step_on, record_step}
use Rattle.btsnoop_rules.specs.File.{file_walk}
use Rattle.btsnoop_rules.proofs.RecordLaws.{record_judged_lem, judged-whole}
use Rattle.stream_rules.specs.Cuts.{Reading, walked, with_record, stopped}

module _ (s : List ℕ) where
  -- a record's start, and that the walk from it is what is to be told
  pub record Started (start : ℕ) (r : Reading) : Type 0 where
    pub behind : header_length ≤ start
    pub fuel : ℕ
    pub enough : length s ≤ start + fuel
    pub reading : r ≡ walked s (walk (record_step s) fuel start)

  -- behind the file header
  pub file-started : Started header_length (walked s (file_walk s))
  unfolding file_walk
  file-started = record { behind = omega arith; fuel = length s; enough = omega arith; reading = refl }

  -- a record that is refused, and the end
  pub told-broken : (start : ℕ) (r : Reading) (n q : ℕ) → Started start r → start < length s → record_at s start ≡ refused n q
      → r ≡ walked s (stop (broken n q))
  told-broken start r n q a h e = a.reading ∙ go a.fuel a.enough
    where
      go : (m : ℕ) → length s ≤ start + m → walked s (walk (record_step s) m start) ≡ walked s (stop (broken n q))
      go zero l = absurd (omega arith)
      go (suc m) l = rw e

  pub told-ended : (start : ℕ) (r : Reading) → Started start r → record_at s start ≡ given end → r ≡ stopped [] (ended start)
  told-ended start r a e = a.reading ∙ go a.fuel
    where
      go : (m : ℕ) → walked s (walk (record_step s) m start) ≡ stopped [] (ended start)
      go zero = rw e
      go (suc m) = rw e

  -- a record that lies whole: what is to be told is the record, and then what is to be told behind it
  pub record Passed (start : ℕ) (r : Reading) (x : Record) (next : ℕ) : Type 0 where
    pub after : Reading
    pub started : Started next after
    pub reading : r ≡ with_record (record { place = start; value = x }) after

  told-passed : (start : ℕ) (r : Reading) (x : Record) (next : ℕ) → Started start r → start < length s → start < next
      → record_step s start ≡ given (Next.whole x next) → Passed start r x next
  told-passed start r x next a h f e = go a.fuel a.enough a.reading
    where
      go : (m : ℕ) → length s ≤ start + m → r ≡ walked s (walk (record_step s) m start) → Passed start r x next
      go zero l w = absurd (omega arith)
      go (suc m) l w =
          record {
            after = walked s (walk (record_step s) m next);
            started = record { behind = omega (arith, a.behind); fuel = m; enough = omega arith; reading = refl };
            reading = w ∙ rw e;
          }

  -- the record at a place whose 24 octets are there
  pub here-judged : (start : ℕ) → header_length ≤ start → start + record_length ≤ length s
      → record_at s start ≡ record_judged (length s - start) start (numbers_at s start)
  here-judged start l h = record_judged_lem s start l (omega arith) (omega arith)

  -- a record whose packet is there passes
  pub here-passed : (start : ℕ) (r : Reading) (n : Numbers) → Started start r → numbers_at s start ≡ n → n.included ≤ n.original
      → start + record_length + n.included ≤ length s
      → Passed start r (record { numbers = n; packet = part s (start + record_length) n.included }) (start + record_length + n.included)
  here-passed start r n a e served h =
      told-passed start r (record { numbers = n; packet = part s (start + record_length) n.included })
      (start + record_length + n.included) a (omega arith) (omega arith)
      (ap (step_on s)
      (here-judged start a.behind (omega arith)
      ∙ ap (record_judged (length s - start) start) e
      ∙ judged-whole (length s - start) start n served (omega arith)))
