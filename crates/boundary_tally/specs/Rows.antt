-- The C boundary of the tally: the nine numbers that a tally is lent as, and the struct that an update's answer is
-- returned as. Kind 0 is a refusal, 1 an update done.
use Rattle.std.specs.Prelude.{ℕ, ◌%◌, ◌^◌, List, [], ◌∷◌, get_or}
use Rattle.refusals.specs.Refusals.{Answer, refused, given}
use Rattle.tally_rules.specs.declared.Tally.{Tally}
use Rattle.tally_rules.specs.declared.Entry.{Entry}
use Rattle.boundary_tally.specs.declared.Done.{Done}

-- the tally of nine numbers: records, received, commands, octets included, lost, last drop number (modulo 2^32),
-- truncated, sent, data
abbrev pub tally_of : List ℕ → Tally
tally_of ns =
    record {
      records = get_or ns 0 0;
      received = get_or ns 1 0;
      commands = get_or ns 2 0;
      octets = get_or ns 3 0;
      lost = get_or ns 4 0;
      last = get_or ns 5 0 % 2 ^ 32;
      truncated = get_or ns 6 0;
      sent = get_or ns 7 0;
      «data» = get_or ns 8 0;
    }

-- the nine numbers of a tally, in that order
abbrev pub numbers_of : Tally → List ℕ
numbers_of t =
    t.records
    ∷ t.received
    ∷ t.commands
    ∷ t.octets
    ∷ t.lost
    ∷ t.last
    ∷ t.truncated
    ∷ t.sent
    ∷ t.«data»
    ∷ []

-- zalghimo_btsnoop_tally: its parameters, as what a tally is given of a record
abbrev pub entry_of : (original included flags drops : ℕ) → Entry
entry_of original included flags drops = record { original = original; included = included; flags = flags; drops = drops }

-- zalghimo_done
abbrev pub done_row : Answer Tally → Done
done_row (refused n q) = record { kind = 0; number = n; place = q }
done_row (given t) = record { kind = 1; number = 0; place = 0 }

-- the lent numbers after an update: as found where it is refused
abbrev pub tally_after : List ℕ → Answer Tally → List ℕ
tally_after ns (refused n q) = ns
tally_after ns (given t) = numbers_of t
