-- `radiotap_bits::continued` meets its contract: bit 29 of the word before chooses none or a mask.
use Rattle.std.proofs.Common.{sym, ◌∙◌}
use Rattle.radiotap_bits.proofs.LeftLaws.{continues_all}
use Rattle.radiotap_bits.proofs.continued.Goals as goal

pub returns : goal.returns
returns c =
    let a = c.args in
    continues_all a.before a.word (sym c.resets.ensures ∙ c.if-resets.false)
