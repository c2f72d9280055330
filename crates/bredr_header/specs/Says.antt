-- What a header of the code says in the request's terms.
use Rattle.std.specs.Prelude.{true}
use Rattle.pseudo_header.specs.Says.{knowledge_says}
use Rattle.bredr_rules.specs.Flags.{Known}
use Rattle.bredr_rules.specs.Reading as Reading
use Rattle.bredr_header.specs.declared.Told.{Told}
use Rattle.bredr_header.specs.declared.Header.{Header}

-- what is told of four values is told of them; every other is known
abbrev pub told_says : Told → Known
told_says t =
    record {
      rf_channel = true;
      signal = knowledge_says t.signal;
      noise = knowledge_says t.noise;
      offences = true;
      rate = true;
      header_bits = true;
      payload_bits = true;
      lap = true;
      reference_lap = knowledge_says t.reference_lap;
      reference_uap = knowledge_says t.reference_uap;
      packet_header = true;
      flags = true;
    }

-- its values, each as known or not
abbrev pub header_of : Header → Reading.Header
header_of h = record { values = h.values; known = told_says h.told }
