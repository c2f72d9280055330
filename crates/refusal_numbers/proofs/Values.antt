-- The numbers that times, tallies and the packets' pseudo-headers are refused with, test by test.
-- Assumes nothing.
use Prim.Native.Nat.{ℕ, ◌+◌}
use mathlib.Core.List.{List}
use lib.ListN.{length, drop}
use lib.Dec.{ltb}
use Rattle.std.specs.Prelude.{ℤ}
use Rattle.refusals.specs.declared.Reason.{Reason}
use Rattle.octets.specs.Parts.{has_room}
use Rattle.capture_time.specs.Time.{unix_microseconds, below_range, reading, unwritable, writing}
use Rattle.tally_rules.specs.declared.Tally.{Tally}
use Rattle.tally_rules.specs.declared.Entry.{Entry}
use Rattle.tally_rules.specs.Tally.{added, adds_up, fits, updating}
use Rattle.le_rules.specs.declared.Values.{Values}
use Rattle.le_rules.specs.Reading as Le
use Rattle.le_rules.specs.Writing as LeWriting
use Rattle.bredr_rules.specs.Reading as BrEdr
use Rattle.refusal_numbers.specs.Named.{NamedNumber}
use Rattle.refusal_numbers.specs.Claims.{ValuesNamed, PacketsNamed}
use Rattle.refusal_numbers.proofs.NamedAnswer.{on, NamedAnswer, refuses, gives, either, told}

reading-named : (field : ℤ) → NamedAnswer (reading field)
unfolding reading
reading-named field = either (below_range (unix_microseconds field)) (refuses (on Reason.Time _)) gives

writing-named : (seconds : ℤ) (microseconds : ℕ) → NamedAnswer (writing seconds microseconds)
unfolding writing
writing-named seconds microseconds = either (unwritable seconds microseconds) (refuses (on Reason.Time _)) gives

updating-named : (t : Tally) (e : Entry) → NamedAnswer (updating t e)
unfolding updating
updating-named t e =
    either (adds_up t) (either (fits (added t e)) gives (refuses (on Reason.TallySum _))) (refuses (on Reason.TallyBroken _))

pub values_named : ValuesNamed
values_named =
    record {
      reads = λ field n q. told (reading-named field);
      writes = λ seconds microseconds n q. told (writing-named seconds microseconds);
      updates = λ t e n q. told (updating-named t e);
    }

-- ---- LE and BR/EDR pseudo-headers

faults : (fault : Le.Fault) → NamedNumber (Le.fault_number fault)
faults Le.channel_above = on Reason.RfChannel _
faults Le.pdu_type_reserved = on Reason.ReservedPduType _
faults Le.phy_reserved = on Reason.ReservedPhy _

le_judged-named : (packet : ℕ) (v : Values) (range : Le.Range) → NamedAnswer (Le.judged packet v range)
le_judged-named packet v (Le.out_of fault) = refuses (faults fault)
le_judged-named packet v Le.within = either (Le.packet_test v.flags packet) gives (refuses (on Reason.ShortPacket _))

le_reading-named : (s : List ℕ) → NamedAnswer (Le.reading_of s)
unfolding Le.reading_of
le_reading-named s =
    either (ltb (length s) Le.header_length) (refuses (on Reason.ShortHeader _))
    (le_judged-named (length (drop Le.header_length s)) (Le.values_in s) (Le.range_of (Le.values_in s).channel (Le.values_in s).flags))

le_writing-named : (size at : ℕ) (v : Values) (packet : List ℕ) → NamedAnswer (LeWriting.writing size at v packet)
unfolding LeWriting.writing
le_writing-named size at v packet = go (Le.range_of v.channel v.flags)
  where
    go : (range : Le.Range) → NamedAnswer (LeWriting.writing_judged size at v packet range)
    go (Le.out_of fault) = refuses (faults fault)
    go Le.within =
        either (Le.packet_test v.flags (length packet))
        (either (has_room size at (Le.header_length + length packet)) gives (refuses (on Reason.NoRoom _)))
        (refuses (on Reason.ShortPacket _))

bredr-named : (s : List ℕ) → NamedAnswer (BrEdr.reading_of s)
unfolding BrEdr.reading_of
bredr-named s =
    either (ltb (length s) BrEdr.header_length) (refuses (on Reason.ShortHeader _))
    (either (BrEdr.channel_test (BrEdr.values_in s).rf_channel) gives (refuses (on Reason.RfChannel _)))

pub packets_named : PacketsNamed
packets_named =
    record {
      faults = faults;
      reads = λ s n q. told (le_reading-named s);
      writes = λ size at v packet n q. told (le_writing-named size at v packet);
      reads_bredr = λ s n q. told (bredr-named s);
    }
