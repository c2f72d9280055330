-- `btsnoop_list::read_full` never reads past the room, and with each turn less of the room is left.
use Rattle.std.proofs.Common.{length, ◌-◌, ◌≤◌}
use Rattle.btsnoop_list.proofs.read_full.Given as goal

abbrev pub invariant-loop-done : goal.invariant-loop-done
invariant-loop-done g l = l.done ≤ length l.room

abbrev pub decreases-loop-done : goal.decreases-loop-done
decreases-loop-done g l = length l.room - l.done
