use mathlib.Core.Path.{◌≡◌}
use Rattle.refusals.specs.Says.{says}
use Rattle.radiotap_rules.specs.Table.{our_rules}
use Rattle.radiotap_reader.proofs.MoveLaws.{Left}
use Rattle.radiotap_reader.proofs.after_moves.Given as goal

abbrev pub invariant-loop-moved : goal.invariant-loop-moved
invariant-loop-moved l =
    (l.reader.header.now ≡ l.header) × (l.reader.edition ≡ l.edition) × Left our_rules l.edition l.header l.moves l._moved (says l.reader.place)
