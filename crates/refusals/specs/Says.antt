-- What a result says in document 01's terms, case by case.
use Rattle.std.specs.Prelude.{ℕ, Result, Ok, Err}
use Rattle.refusals.specs.Refusals.{Answer, refused, given, short_header, identification, version, datalink, short_record, included_length, short_packet, no_room, record_place}
use Rattle.refusals.specs.declared.Reason.{Reason}
use Rattle.refusals.specs.declared.Refusal.{Refusal}

-- the number of each reason: those that several formats give by their names; of one format's own, whose name stands in its
-- crate, the number with that name beside it
abbrev pub number_of : Reason → ℕ
number_of Reason.ShortHeader = short_header
number_of Reason.Identification = identification
number_of Reason.Version = version
number_of Reason.Datalink = datalink
number_of Reason.ShortRecord = short_record
number_of Reason.IncludedAboveOriginal = included_length
number_of Reason.ShortPacket = short_packet
number_of Reason.RfChannel = 8  -- channel_above
number_of Reason.RadiotapLength = 9  -- radiotap_length
number_of Reason.WordPastLength = 10  -- word_past
number_of Reason.NinthWord = 11  -- ninth_word
number_of Reason.FieldPastLength = 12  -- field_past
number_of Reason.NoRoom = no_room
number_of Reason.Time = 14  -- inexpressible
number_of Reason.Edition = 15  -- edition_above
number_of Reason.TallySum = 16  -- sum_past
number_of Reason.RecordPlace = record_place
number_of Reason.UnknownBit = 18  -- unknown_bit
number_of Reason.ValuesLength = 19  -- values_length
number_of Reason.ListingInput = 20  -- input_above
number_of Reason.ReservedPduType = 21  -- pdu_type_reserved
number_of Reason.ReservedPhy = 22  -- phy_reserved
number_of Reason.TallyBroken = 23  -- sum_broken
number_of Reason.LongStream = 32  -- long_stream
number_of (Reason.Other n) = n

-- a result: the refusal's number and place, or what is given, by what its Ok stands for
abbrev pub says_by : {A B : Type 0} → (A → B) → Result A Refusal → Answer B
says_by stands_for (Ok v) = given (stands_for v)
says_by stands_for (Err r) = refused (number_of r.reason) r.place

-- a result whose Ok is what is given
abbrev pub says : {A : Type 0} → Result A Refusal → Answer A
says (Ok v) = given v
says (Err r) = refused (number_of r.reason) r.place
