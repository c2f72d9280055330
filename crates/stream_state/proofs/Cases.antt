-- What a call answers, case by case.
-- Assumes nothing.
use Prim.Native.Nat.{ℕ, ◌+◌, ◌-◌, ◌≤◌, ◌<◌}
use mathlib.Core.Path.{◌≡◌}
use mathlib.Core.List.{List, [], ◌++◌}
use lib.ListN.{length, take, drop}
use native.Mathlib.Omega.{arith}
use borrow.Author.Tests.{lt-ltb, le-ltb, le-leb, lt-leb}
use Rattle.refusals.specs.Refusals.{included_length}
use Rattle.btsnoop_rules.specs.declared.Numbers.{Numbers}
use Rattle.btsnoop_rules.specs.Header.{header_length, header_judged}
use Rattle.btsnoop_rules.specs.Record.{record_length, numbers_at}
use Rattle.stream_rules.specs.Stream.{long_stream, most_octets, nothing, finished, in_header, in_record, in_packet, Outcome, outcome, refuses, handed, after, header_taken, take_header, record_taken, take_record, take_packet, within}

module _ (octets : ℕ) (held c : List ℕ) where
  pub header-more : length held + length c < header_length
      → take_header octets held c ≡ outcome (length c) nothing (in_header (octets + length c) (held ++ c))
  unfolding take_header
  header-more h = rw (lt-ltb (length c) (header_length - length held) (omega arith))

  pub header-full : header_length ≤ length held + length c
      → take_header octets held c
      ≡ header_taken octets (header_length - length held) (header_judged (held ++ take (header_length - length held) c))
  unfolding take_header
  header-full h = rw (le-ltb (length c) (header_length - length held) (omega arith))

  pub record_more : length held + length c < record_length
      → take_record octets held c ≡ outcome (length c) nothing (in_record (octets + length c) (held ++ c))
  unfolding take_record
  record_more h = rw (lt-ltb (length c) (record_length - length held) (omega arith))

  pub record_full : record_length ≤ length held + length c
      → take_record octets held c
      ≡ record_taken octets (record_length - length held) (numbers_at (held ++ take (record_length - length held) c) 0)
      (drop (record_length - length held) c)
  unfolding take_record
  record_full h = rw (le-ltb (length c) (record_length - length held) (omega arith))

module _ (octets k : ℕ) (n : Numbers) (c : List ℕ) where
  pub taken_above : n.original < n.included
      → record_taken octets k n c ≡ refuses octets included_length (octets + k - record_length + 4)
  unfolding record_taken
  taken_above h = rw (lt-leb n.included n.original h)

  pub taken-begun : n.included ≤ n.original → record_taken octets k n c ≡ after k (take_packet (octets + k) n 0 c)
  unfolding record_taken
  taken-begun h = rw (le-leb n.included n.original h)

module _ (octets : ℕ) (n : Numbers) (done : ℕ) (c : List ℕ) where
  pub packet-more : length c < n.included - done
      → take_packet octets n done c ≡ outcome (length c) (handed done c) (in_packet (octets + length c) n (done + length c))
  unfolding take_packet
  packet-more h = rw (lt-ltb (length c) (n.included - done) h)

  pub packet-full : n.included - done ≤ length c
      → take_packet octets n done c
      ≡ outcome (n.included - done)
      (finished (octets - (record_length + done)) n done (take (n.included - done) c))
      (in_record (octets + (n.included - done)) [])
  unfolding take_packet
  packet-full h = rw (le-ltb (length c) (n.included - done) h)

module _ (octets : ℕ) (c : List ℕ) (o : Outcome) where
  pub within-limit : octets + length c ≤ most_octets → within octets c o ≡ o
  within-limit h = rw (le-leb (octets + length c) most_octets h)

  pub within_past : most_octets < octets + length c → within octets c o ≡ refuses octets long_stream 0
  within_past h = rw (lt-leb (octets + length c) most_octets h)
