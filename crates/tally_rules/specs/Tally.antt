-- Document 01, "BTSnoop": the tally, a running tally that its owner lends and the library updates record by record. Its
-- counts of truncated, sent and data packets, and its two sums, are those of request W-204.
-- `«data»` is the word data, quoted since the language has it for itself.
use Rattle.std.specs.Prelude.{ℕ, ◌+◌, ◌^◌, Bool, true, false, cond, not, ◌&&◌, ltb, eqb}
use Rattle.refusals.specs.Refusals.{Answer, refused, given}
use Rattle.btsnoop_rules.specs.Record.{received, command}
use Rattle.btsnoop_rules.specs.Drops.{drops_between}
use Rattle.tally_rules.specs.declared.Tally.{Tally}
use Rattle.tally_rules.specs.declared.Entry.{Entry}

-- 23: a tally handed in breaks either sum
abbrev pub sum_broken : ℕ
sum_broken = 23

-- 16: a tally sum would pass 2^64 − 1
abbrev pub sum_past : ℕ
sum_past = 16

-- a record whose included length is below the original
abbrev pub truncated : Entry → Bool
truncated e = ltb e.included e.original

-- bit 0 of the flags clear: sent
abbrev pub sent : (flags : ℕ) → Bool
sent flags = not (received flags)

-- bit 1 of the flags clear: data
abbrev pub is_data : (flags : ℕ) → Bool
is_data flags = not (command flags)

-- 1 where a test holds
abbrev pub one_if : Bool → ℕ
one_if true = 1
one_if false = 0

-- a record met while records is 0 adds 0 to lost; later ones add their drop difference
abbrev pub lost_by : Tally → (drops : ℕ) → ℕ
lost_by t drops = cond (eqb t.records 0) 0 (drops_between t.last drops)

-- the tally with a record added
abbrev pub added : Tally → Entry → Tally
added t e =
    record {
      records = t.records + 1;
      received = t.received + one_if (received e.flags);
      commands = t.commands + one_if (command e.flags);
      octets = t.octets + e.included;
      lost = t.lost + lost_by t e.drops;
      last = e.drops;
      truncated = t.truncated + one_if (truncated e);
      sent = t.sent + one_if (sent e.flags);
      «data» = t.«data» + one_if (is_data e.flags);
    }

-- whether sent plus received equals records, and commands plus data equals records, in numbers that do not wrap
abbrev pub adds_up : Tally → Bool
adds_up t = eqb (t.sent + t.received) t.records && eqb (t.commands + t.«data») t.records

-- whether none of the eight sums passes 2^64 − 1; the last drop number is none
abbrev pub fits : Tally → Bool
fits t =
    ltb t.records (2 ^ 64)
    && ltb t.received (2 ^ 64)
    && ltb t.commands (2 ^ 64)
    && ltb t.octets (2 ^ 64)
    && ltb t.lost (2 ^ 64)
    && ltb t.truncated (2 ^ 64)
    && ltb t.sent (2 ^ 64)
    && ltb t.«data» (2 ^ 64)

-- what an update answers, in the order 23, on the tally as it is handed in, 16, and then the tally with the record added
unfoldable pub updating : Tally → Entry → Answer Tally
updating t e = cond (adds_up t) (cond (fits (added t e)) (given (added t e)) (refused sum_past 0)) (refused sum_broken 0)

-- the lent tally after an update: as found where it is refused
abbrev pub after_update : Tally → Answer Tally → Tally
after_update t (refused n q) = t
after_update t (given u) = u
