-- `radiotap_list::put` meets its contract: four stores one behind the other are one splice.
use Rattle.radiotap_list.proofs.ListLaws.{store_four}
use Rattle.radiotap_list.proofs.put.Goals as goal

pub returns : goal.returns
returns c =
    let a = c.args in
    store_four a.out.now a.at a.word a.bit a.start a.size c.requires
