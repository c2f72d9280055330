-- `radiotap_place::fresh` meets its contract: by the whole header's answer, the refusal or the first place.
use native.Mathlib.Omega.{arith}
use Rattle.radiotap_place.proofs.PlaceLaws.{fresh-refused, fresh_read}
use Rattle.radiotap_place.proofs.fresh.Goals as goal

pub returns-in_err-_judged : goal.returns-in_err-_judged
returns-in_err-_judged c = grind (arith, fresh-refused)

pub returns-in_err-head : goal.returns-in_err-head
returns-in_err-head c = grind (arith, fresh_read)

pub returns : goal.returns
returns c = grind (arith, fresh_read)
