-- One call, and the end: what they tell is what is to be told, and what is left is to be told behind it.
-- Assumes nothing.
use Prim.Native.Nat.{ℕ, suc, ◌+◌, ◌-◌, ◌^◌, ◌≤◌, ◌<◌}
use mathlib.Core.Path.{◌≡◌, refl, sym, ap, ◌∙◌, subst}
use mathlib.Core.List.{List, [], ◌∷◌, ◌++◌, append_assoc, append-nil}
use mathlib.Core.Bool.{cond}
use native.Mathlib.Omega.{arith}
use native.Mathlib.Nat.{lt_of_not-le}
use native.Mathlib.Decide.{dec_le, ℕ_discrete}
use lib.Dec.{eqb}
use lib.ListN.{length, take, drop, length-append, length-drop, take-append-drop}
use lib.Seq.{drop-length, drop-drop, take-append-add, take-append-le, length-take-le}
use borrow.Author.Tests.{lt-ltb, le-ltb, le-leb, lt-leb, eq-eqb, ne_eqb}
use Rattle.refusals.specs.Refusals.{Answer, refused, given, short_header, short_record, included_length, short_packet}
use Rattle.octets.specs.Parts.{part as part_of}
use Rattle.octets.proofs.Fields.{past}
use Rattle.tiling.specs.Tiling.{ended, broken}
use Rattle.btsnoop_rules.specs.declared.Numbers.{Numbers}
use Rattle.btsnoop_rules.specs.Header.{header_length, header_judged, header_at}
use Rattle.btsnoop_rules.specs.Record.{record_length, numbers_at, record_judged, record_at, Record}
use Rattle.btsnoop_rules.specs.File.{file_walk}
use Rattle.btsnoop_rules.proofs.HeaderLaws.{header-short, header-judged}
use Rattle.btsnoop_rules.proofs.RecordLaws.{record_end, record_short, judged_above, judged_past}
use Rattle.stream_rules.specs.Stream.{most_octets, Event, Stream, in_header, in_record, in_packet, refused_at, ended_at, refuses, ends, handed, header_taken, take_header, record_taken, take_record, take_packet, take_at, end_at}
use Rattle.stream_rules.specs.Cuts.{Reading, walked, with_code, with_record, stopped, read_behind, in_place, told}
use Rattle.stream_rules.specs.Calls.{Awaits}
use Rattle.stream_rules.proofs.Fronts.{numbers-front, header-front}
use Rattle.stream_rules.proofs.Readings.{file-started, told-broken, told-ended, here-judged, here-passed}
use Rattle.stream_rules.proofs.Chains.{InHeader, InRecord, InPacket, At, Goes, Stepped, goes, stops}

-- a header filled up from a chunk stands before what is left of the chunk
filled : (held c more : List ℕ) (k : ℕ) → (held ++ take k c) ++ (drop k c ++ more) ≡ held ++ (c ++ more)
filled held c more k =
    append_assoc held (take k c) (drop k c ++ more)
    ∙ ap (λ (x : List ℕ). held ++ x) (sym (append_assoc (take k c) (drop k c) more) ∙ ap (λ (x : List ℕ). x ++ more) (take-append-drop k c))

-- a chunk taken whole
all-taken : (held c more : List ℕ) → (held ++ c) ++ (drop (length c) c ++ more) ≡ held ++ (c ++ more)
all-taken held c more = rw (drop-length c) (append_assoc held c more)

length-filled : (held c : List ℕ) (size : ℕ) → length held ≤ size → size ≤ length held + length c
    → length (held ++ take (size - length held) c) ≡ size
length-filled held c size l h =
    let k : ℕ = size - length held in
    let t : length (take k c) ≡ k = length-take-le k c (omega arith) in
    omega (arith, length-append held (take k c))

-- parts in place are told
in_place_lem : (position : ℕ) (before : List ℕ) (r : Reading) → length before ≡ position → in_place position before r ≡ r
in_place_lem position before r e = rw (eq-eqb position (length before) (sym e))

-- octets handed out of a packet are told behind those before
handed_told : (before c : List ℕ) (done : ℕ) (es : List Event) → length before ≡ done → told before (handed done c ∷ es) ≡ told (before ++ c) es
handed_told before [] done es e = ap (λ (x : List ℕ). told x es) (sym (append-nil before))
handed_told before (x ∷ xs) done es e =
    let some : suc (length xs) ≡ 0 → ⊥ = λ z. omega arith in
    rw (ne_eqb (suc (length xs)) 0 some) (in_place_lem done before (told (before ++ (x ∷ xs)) es) e)

module _ (s : List ℕ) where
  -- one call in the file header
  module _ (c more : List ℕ) (octets : ℕ) (held before : List ℕ) (r : Reading) (w : Awaits (in_header octets held))
      (a : InHeader s held (c ++ more) before r) where
    header-size : length s ≡ octets + (length c + length more)
    header-size = omega (arith, ap length a.stream, length-append held (c ++ more), length-append c more, w.0)

    header-step : Stepped s c more before r (take_header octets held c)
    unfolding take_header
    header-step = elim (dec_le (header_length - length held) (length c)) [ yes l ↦ whole l | no l ↦ short (lt_of_not-le l) ]
      where
        k : ℕ
        k = header_length - length held

        h : List ℕ
        h = held ++ take k c

        whole-stream : s ≡ h ++ (drop k c ++ more)
        whole-stream = a.stream ∙ sym (filled held c more k)

        long : k ≤ length c → length h ≡ header_length
        long l = length-filled held c header_length (omega (arith, w.1)) (omega arith)

        judged : k ≤ length c → header_at s ≡ header_judged h
        judged l = header-judged s (omega (arith, header-size, w.0)) ∙ header-front s h (drop k c ++ more) whole-stream (long l)

        full : (l : k ≤ length c) (x : Answer ℕ) → header_at s ≡ x → Stepped s c more before r (header_taken octets k x)
        full l (refused n q) e =
            stops (λ es. ap (λ (x : List ℕ). stopped x (broken n q)) a.none ∙ sym (a.reading ∙ ap (read_behind s) e))
        full l (given code) e =
            goes (record {
              before' = [];
              r' = walked s (file_walk s);
              at =
                  record {
                    start = header_length;
                    counted = omega (arith, w.0, w.1);
                    started = file-started s;
                    inside = omega (arith, header-size, w.0);
                    stream = past s 0 header_length h (drop k c ++ more) (omega (arith, long l)) whole-stream;
                    none = refl;
                  };
              tells =
                  λ es t. ap (λ (x : List ℕ). with_code code (told x es)) a.none
                  ∙ ap (with_code code) t
                  ∙ sym (a.reading ∙ ap (read_behind s) e);
            })

        whole : k ≤ length c → Stepped s c more before r (take_header octets held c)
        whole l = rw le-ltb (full l (header_judged h) (judged l))

        short : length c < k → Stepped s c more before r (take_header octets held c)
        short l =
            rw lt-ltb
            (goes (record {
              before' = before;
              r' = r;
              at = record { stream = a.stream ∙ sym (all-taken held c more); none = a.none; reading = a.reading };
              tells = λ es e. e;
            }))

  -- one call in a packet
  module _ (c more : List ℕ) (octets : ℕ) (n : Numbers) (done : ℕ) (before : List ℕ) (r : Reading)
      (a : InPacket s octets n done (c ++ more) before r) where
    packet-size : length s ≡ octets + (length c + length more)
    packet-size =
        omega (arith, a.inside, a.position, a.counted, length-drop (a.start + record_length) s, ap length a.stream, length-append before (c ++ more), length-append c more)

    -- the packet is what was handed out before and the chunk's part
    packet-joined : n.included - done ≤ length c
        → part_of s (a.start + record_length) n.included ≡ before ++ take (n.included - done) c
    unfolding part_of
    packet-joined l =
        let k : ℕ = n.included - done in
        let sum : n.included ≡ length before + k = omega (arith, a.position, a.most) in
        ap (take n.included) a.stream
        ∙ ap (λ (m : ℕ). take m (before ++ (c ++ more))) sum
        ∙ take-append-add before (c ++ more) k
        ∙ ap (λ (x : List ℕ). before ++ x) (take-append-le k c more l)

    packet-goes : Goes s before r (take_packet octets n done c).event (take_packet octets n done c).next (drop (take_packet octets n done c).taken c ++ more)
    unfolding take_packet
    packet-goes = elim (dec_le (n.included - done) (length c)) [ yes l ↦ whole l | no l ↦ short (lt_of_not-le l) ]
      where
        start : ℕ
        start = a.start

        k : ℕ
        k = n.included - done

        x : Record
        x = record { numbers = n; packet = before ++ take k c }

        short : length c < k
            → Goes s before r (take_packet octets n done c).event (take_packet octets n done c).next (drop (take_packet octets n done c).taken c ++ more)
        short l =
            rw lt-ltb
            (record {
              before' = before ++ c;
              r' = r;
              at =
                  record {
                    start = start;
                    counted = omega (arith, a.counted);
                    started = a.started;
                    inside = a.inside;
                    stream = a.stream ∙ sym (all-taken before c more);
                    numbers = a.numbers;
                    served = a.served;
                    position = omega (arith, length-append before c, a.position);
                    most = omega arith;
                  };
              tells = λ es t. handed_told before c done es a.position ∙ t;
            })

        whole : k ≤ length c
            → Goes s before r (take_packet octets n done c).event (take_packet octets n done c).next (drop (take_packet octets n done c).taken c ++ more)
        whole l =
            let enough : start + record_length + n.included ≤ length s = omega (arith, packet-size, a.counted, a.most) in
            let p = here-passed s start r n a.started a.numbers a.served enough in
            let long : length (before ++ take k c) ≡ n.included =
            omega (arith, length-append before (take k c), length-take-le k c l, a.position, a.most) in
            let place : octets - (record_length + done) ≡ start = omega (arith, a.counted) in
            rw (le-ltb, place)
            (record {
              before' = [];
              r' = p.after;
              at =
                  record {
                    start = start + record_length + n.included;
                    counted = omega (arith, a.counted, a.most);
                    started = p.started;
                    inside = enough;
                    stream =
                        past s (start + record_length) (start + record_length + n.included) (before ++ take k c) (drop k c ++ more)
                        (ap (λ (m : ℕ). start + record_length + m) long) (a.stream ∙ sym (filled before c more k));
                    none = refl;
                  };
              tells =
                  λ es t. in_place_lem done before (with_record (record { place = start; value = x }) (told [] es)) a.position
                  ∙ ap (with_record (record { place = start; value = x })) t
                  ∙ ap (λ (y : List ℕ). with_record (record { place = start; value = record { numbers = n; packet = y } }) p.after) (sym (packet-joined l))
                  ∙ sym p.reading;
            })

  -- one call in a record's header
  module _ (c more : List ℕ) (octets : ℕ) (held before : List ℕ) (r : Reading) (w : Awaits (in_record octets held))
      (a : InRecord s octets held (c ++ more) before r) where
    record_size : length s ≡ octets + (length c + length more)
    record_size =
        omega (arith, a.inside, a.counted, length-drop a.start s, ap length a.stream, length-append held (c ++ more), length-append c more)

    record_step : Stepped s c more before r (take_record octets held c)
    unfolding take_record record_taken
    record_step = elim (dec_le (record_length - length held) (length c)) [ yes l ↦ whole l | no l ↦ short (lt_of_not-le l) ]
      where
        start : ℕ
        start = a.start

        k : ℕ
        k = record_length - length held

        h : List ℕ
        h = held ++ take k c

        n : Numbers
        n = numbers_at h 0

        from_start : drop start s ≡ h ++ (drop k c ++ more)
        from_start = a.stream ∙ sym (filled held c more k)

        enough : k ≤ length c → start + record_length ≤ length s
        enough l = omega (arith, record_size, a.counted)

        at_packet : k ≤ length c → octets + k ≡ start + record_length
        at_packet l = omega (arith, a.counted, w.1)

        long : k ≤ length c → length h ≡ record_length
        long l = length-filled held c record_length (omega (arith, w.1)) (omega arith)

        numbers : k ≤ length c → numbers_at s start ≡ n
        numbers l = numbers-front s h (drop k c ++ more) start from_start (long l)

        judged : k ≤ length c → record_at s start ≡ record_judged (length s - start) start n
        judged l = here-judged s start a.started.behind (enough l) ∙ ap (record_judged (length s - start) start) (numbers l)

        begun : k ≤ length c → n.included ≤ n.original → InPacket s (octets + k) n 0 (drop k c ++ more) [] r
        begun l g =
            record {
              start = start;
              counted = omega (arith, at_packet l);
              started = a.started;
              inside = enough l;
              stream = past s start (start + record_length) h (drop k c ++ more) (omega (arith, long l)) from_start;
              numbers = numbers l;
              served = g;
              position = refl;
              most = omega arith;
            }

        full : k ≤ length c → Dec (n.included ≤ n.original)
            → Stepped s c more before r (record_taken octets k n (drop k c))
        full l (yes g) =
            let p = packet-goes (drop k c) more (octets + k) n 0 [] r (begun l g) in
            rw le-leb
            (goes (record {
              before' = p.before';
              r' = p.r';
              at = subst (λ (x : List ℕ). At s (take_packet (octets + k) n 0 (drop k c)).next (x ++ more) p.before' p.r') (drop-drop (take_packet (octets + k) n 0 (drop k c)).taken k c) p.at;
              tells = λ es t. ap (λ (x : List ℕ). told x ((take_packet (octets + k) n 0 (drop k c)).event ∷ es)) a.none ∙ p.tells es t;
            }))
        full l (no g) =
            let above : n.original < n.included = lt_of_not-le g in
            let place : octets + k - record_length ≡ start = omega (arith, at_packet l) in
            rw (lt-leb, place)
            (stops (λ es. ap (λ (x : List ℕ). stopped x (broken included_length (start + 4))) a.none
            ∙ sym (told-broken s start r included_length (start + 4) a.started (omega (arith, enough l))
            (judged l ∙ judged_above (length s - start) start n above))))

        whole : k ≤ length c → Stepped s c more before r (take_record octets held c)
        whole l = rw le-ltb (full l (dec_le n.included n.original))

        short : length c < k → Stepped s c more before r (take_record octets held c)
        short l =
            rw lt-ltb
            (goes (record {
              before' = before;
              r' = r;
              at =
                  record {
                    start = start;
                    counted = omega (arith, length-append held c, a.counted);
                    started = a.started;
                    inside = a.inside;
                    stream = a.stream ∙ sym (all-taken held c more);
                    none = a.none;
                  };
              tells = λ es e. e;
            }))

  -- the end
  pub last : (st : Stream) (before : List ℕ) (r : Reading) → Awaits st → At s st [] before r → told before ((end_at st).event ∷ []) ≡ r
  unfolding end_at
  last (in_header octets held) before r w a =
      let size : length s ≡ octets = omega (arith, header-size [] [] octets held before r w a) in
      let short : header_at s ≡ refused short_header octets =
      header-short s (omega (arith, w.0, w.1)) ∙ ap (refused short_header) size in
      ap (λ (x : List ℕ). stopped x (broken short_header octets)) a.none ∙ sym (a.reading ∙ ap (read_behind s) short)
  last (in_record octets held) before r w a = go (ℕ_discrete (length held) 0)
    where
      start : ℕ
      start = a.start

      size : length s ≡ start + length held
      size = omega (arith, record_size [] [] octets held before r w a, a.counted)

      go : Dec (length held ≡ 0)
          → told before ((cond (eqb (length held) 0) (ends octets) (refuses octets short_record (octets - length held))).event ∷ []) ≡ r
      go (yes e) =
          let place : octets ≡ start = omega (arith, a.counted) in
          rw (eq-eqb (length held) 0 e, place)
          (ap (λ (x : List ℕ). stopped x (ended start)) a.none
          ∙ sym (told-ended s start r a.started (record_end s start a.started.behind (omega (arith, size)))))
      go (no e) =
          let place : octets - length held ≡ start = omega (arith, a.counted) in
          rw (ne_eqb (length held) 0 e, place)
          (ap (λ (x : List ℕ). stopped x (broken short_record start)) a.none
          ∙ sym (told-broken s start r short_record start a.started (omega (arith, size, e))
          (record_short s start a.started.behind (omega (arith, size, e)) (omega (arith, size, w.1)))))
  last (in_packet octets n done) before r w a =
      let start : ℕ = a.start in
      let size : length s ≡ octets = omega (arith, packet-size [] [] octets n done before r a) in
      let place : octets - (record_length + done) ≡ start = omega (arith, a.counted) in
      let cut : record_at s start ≡ refused short_packet start =
      here-judged s start a.started.behind a.inside
      ∙ ap (record_judged (length s - start) start) a.numbers
      ∙ judged_past (length s - start) start n a.served (omega (arith, a.counted, w.1)) in
      ap (λ (x : ℕ). stopped before (broken short_packet x)) place
      ∙ ap (λ (x : List ℕ). stopped x (broken short_packet start)) (sym (append-nil before) ∙ sym a.stream)
      ∙ sym (told-broken s start r short_packet start a.started (omega (arith, a.counted)) cut)
  last (refused_at octets n q) before r w a = absurd a
  last (ended_at octets) before r w a = absurd a

  -- one call
  module _ (short : length s < 2 ^ 63) where
    pub step : (c more : List ℕ) (st : Stream) (before : List ℕ) (r : Reading) → Awaits st → At s st (c ++ more) before r
        → Stepped s c more before r (take_at st c)
    unfolding take_at
    step c more (in_header octets held) before r w a =
        let room : octets + length c ≤ most_octets = omega (arith, header-size c more octets held before r w a) in
        rw le-leb (header-step c more octets held before r w a)
    step c more (in_record octets held) before r w a =
        let room : octets + length c ≤ most_octets = omega (arith, record_size c more octets held before r w a) in
        rw le-leb (record_step c more octets held before r w a)
    step c more (in_packet octets n done) before r w a =
        let room : octets + length c ≤ most_octets = omega (arith, packet-size c more octets n done before r a) in
        rw le-leb (goes (packet-goes c more octets n done before r a))
    step c more (refused_at octets n q) before r w a = absurd a
    step c more (ended_at octets) before r w a = absurd a
