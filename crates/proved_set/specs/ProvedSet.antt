-- Document 01, "Proved set": the examples P1 to P13, and the one statement that the rules answer them so.
-- Proof: proofs/Shown.antt.
use Rattle.std.specs.Prelude.{ℕ, zero, suc, ◌-◌, ◌≡◌, List, [], ◌∷◌, ◌++◌, map, take, set, replicate, ℤ, pos, negsuc}
use Rattle.refusals.specs.Refusals.{Answer, refused, given}
use Rattle.btsnoop_rules.specs.File.{File, file_at}
use Rattle.btsnoop_rules.specs.Drops.{drops_between}
use Rattle.capture_time.specs.Time.{CaptureTime, unix_epoch, reading}
use Rattle.radiotap_rules.specs.Reading as Radiotap
use Rattle.radiotap_rules.specs.Reading.{field_past, Field, Ending, ended, stopped, Reading, refused_before, refused_at_field, read}
use Rattle.radiotap_rules.specs.Table.{our_rules}
use Rattle.le_rules.specs.Reading.{Header, reading_of}

-- what an example asks: octets as a BTSnoop file, a record's time field, the drops of two records, octets as a radiotap
-- header in an edition, octets as an LE pseudo-header and its packet
pub data Question : Type 0 where
  as_file : List ℕ → Question
  as_time : ℤ → Question
  as_drops : (earlier later : ℕ) → Question
  as_radiotap : (edition : ℕ) → List ℕ → Question
  as_le : List ℕ → Question

-- where the fields of a radiotap header start, and how its reading ends
pub record Starts : Type 0 where
  pub places : List ℕ
  pub ending : Ending

abbrev pub places_of : List Field → List ℕ
places_of [] = []
places_of (f ∷ fs) = f.place ∷ places_of fs

abbrev pub starts_of : Reading → Answer Starts
starts_of (refused_before n q) = refused n q
starts_of (refused_at_field w b q) = refused field_past q
starts_of (read fs e frame) = given (record { places = places_of fs; ending = e })

-- what the rules answer
pub data Reply : Type 0 where
  file : Answer File → Reply
  time : Answer CaptureTime → Reply
  drops : ℕ → Reply
  radiotap : Answer Starts → Reply
  le : Answer Header → Reply

abbrev pub reading123 : (edition : ℕ) → List ℕ → Reading
reading123 edition s = Radiotap.reading our_rules edition s

abbrev pub reply_to : Question → Reply
reply_to (as_file s) = file (file_at s)
reply_to (as_time field) = time (reading field)
reply_to (as_drops earlier later) = drops (drops_between earlier later)
reply_to (as_radiotap edition s) = radiotap (starts_of (reading123 edition s))
reply_to (as_le s) = le (reading_of s)

-- an example: its input and its answer
pub record Example : Type 0 where
  pub question : Question
  pub reply : Reply

-- a file header with code 1002
abbrev pub header1002 : List ℕ
header1002 =
    0x62 ∷ 0x74 ∷ 0x73 ∷ 0x6e ∷ 0x6f ∷ 0x6f ∷ 0x70 ∷ 0x00 ∷ 0x00 ∷ 0x00 ∷ 0x00 ∷ 0x01 ∷ 0x00 ∷ 0x00 ∷ 0x03 ∷ 0xea ∷ []

-- the header, then a record: 4, 4, flags 2, drops 0, the year-2000 constant, 01 03 0C 00 (44 octets)
abbrev pub one_record : List ℕ
one_record =
    header1002
    ++ (0x00 ∷ 0x00 ∷ 0x00 ∷ 0x04 ∷ 0x00 ∷ 0x00 ∷ 0x00 ∷ 0x04 ∷ 0x00 ∷ 0x00 ∷ 0x00 ∷ 0x02 ∷ 0x00 ∷ 0x00 ∷ 0x00 ∷ 0x00 ∷ [])
    ++ (0x00 ∷ 0xe0 ∷ 0x3a ∷ 0xb4 ∷ 0x4a ∷ 0x67 ∷ 0x60 ∷ 0x00 ∷ 0x01 ∷ 0x03 ∷ 0x0c ∷ 0x00 ∷ [])

-- P1: empty, as BTSnoop
abbrev pub P1 : Example
P1 = record { question = as_file []; reply = file (refused 1 0) }

-- P2: the header, code 1002
abbrev pub P2 : Example
P2 = record { question = as_file header1002; reply = file (given (record { datalink = 1002; records = 0 })) }

-- P3: P2, then a record
abbrev pub P3 : Example
P3 = record { question = as_file one_record; reply = file (given (record { datalink = 1002; records = 1 })) }

-- P4: P3 less its last octet
abbrev pub P4 : Example
P4 = record { question = as_file (take 43 one_record); reply = file (refused 7 16) }

-- P5: P3 with included 5
abbrev pub P5 : Example
P5 = record { question = as_file (set one_record 23 5); reply = file (refused 6 20) }

-- P6: time C − 1
abbrev pub P6 : Example
P6 =
    record {
      question = as_time (pos (unix_epoch - 1));
      reply = time (given (record { seconds = negsuc 0; microseconds = 999_999 }));
    }

-- P7: drops 4,294,967,290 then 5
abbrev pub P7 : Example
P7 = record { question = as_drops 4_294_967_290 5; reply = drops 11 }

-- a radiotap header of one presence word, all octets behind it 0
abbrev pub one_word : (size byte0 byte1 : ℕ) → List ℕ
one_word size byte0 byte1 =
    0x00 ∷ 0x00 ∷ size ∷ 0x00 ∷ byte0 ∷ byte1 ∷ 0x00 ∷ 0x00 ∷ replicate (size - 8) 0x00

-- the editions that are served, 0 as the one it asks for
abbrev pub editions_to : ℕ → List ℕ
editions_to zero = 0 ∷ []
editions_to (suc n) = suc n ∷ editions_to n

abbrev pub served_editions : List ℕ
served_editions = editions_to our_rules.newest

-- P8: one word 0x0000002F, length 23, in an edition
abbrev pub P8 : (edition : ℕ) → Example
P8 edition =
    record {
      question = as_radiotap edition (one_word 23 0x2f 0x00);
      reply = radiotap (given (record { places = 8 ∷ 16 ∷ 17 ∷ 18 ∷ 22 ∷ []; ending = ended }));
    }

-- P9: words 0xA0000001, 0x00000020, length 25, in an edition
abbrev pub P9 : (edition : ℕ) → Example
P9 edition =
    record {
      question =
          as_radiotap edition
          (0x00 ∷ 0x00 ∷ 25 ∷ 0x00 ∷ 0x01 ∷ 0x00 ∷ 0x00 ∷ 0xa0 ∷ 0x20 ∷ 0x00 ∷ 0x00 ∷ 0x00 ∷ replicate 13 0x00);
      reply = radiotap (given (record { places = 16 ∷ 24 ∷ []; ending = ended }));
    }

-- edition 1, and edition 0, which asks for it
abbrev pub first_editions : List ℕ
first_editions = 1 ∷ 0 ∷ []

-- P10: word 0x00004002, length 12, in an edition that asks for edition 1, and in edition 2
abbrev pub P10 : (edition : ℕ) → Example
P10 edition =
    record {
      question = as_radiotap edition (one_word 12 0x02 0x40);
      reply = radiotap (given (record { places = 8 ∷ []; ending = stopped 0 14 }));
    }

abbrev pub P10' : Example
P10' =
    record {
      question = as_radiotap 2 (one_word 12 0x02 0x40);
      reply = radiotap (given (record { places = 8 ∷ 10 ∷ []; ending = ended }));
    }

-- P11: P10 with length 11, in edition 2, and in an edition that asks for edition 1
abbrev pub P11 : Example
P11 = record { question = as_radiotap 2 (one_word 11 0x02 0x40); reply = radiotap (refused 12 10) }

abbrev pub P11' : (edition : ℕ) → Example
P11' edition =
    record {
      question = as_radiotap edition (one_word 11 0x02 0x40);
      reply = radiotap (given (record { places = 8 ∷ []; ending = stopped 0 14 }));
    }

-- P12: LE, channel 40, as 14 octets, all others 0
abbrev pub P12 : Example
P12 = record { question = as_le (40 ∷ replicate 13 0x00); reply = le (refused 8 0) }

-- P13: LE, channel 0, flags 0xC000, as 14 octets, all others 0; 22 by request W-202
abbrev pub P13 : Example
P13 = record { question = as_le (replicate 8 0x00 ++ (0x00 ∷ 0xc0 ∷ replicate 4 0x00)); reply = le (refused 22 8) }

-- P8 and P9 in every served edition, P10 and P11 in edition 0 too
abbrev pub examples : List Example
examples =
    (P1 ∷ P2 ∷ P3 ∷ P4 ∷ P5 ∷ P6 ∷ P7 ∷ [])
    ++ (map P8 served_editions
    ++ (map P9 served_editions
    ++ (map P10 first_editions ++ (P10' ∷ P11 ∷ (map P11' first_editions ++ (P12 ∷ P13 ∷ []))))))

-- the rules answer every example as the paper does
abbrev pub Shown : Type 0
Shown = map (λ (e : Example). reply_to e.question) examples ≡ map (λ (e : Example). e.reply) examples
