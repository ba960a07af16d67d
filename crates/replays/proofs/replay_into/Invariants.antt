use Rattle.std.proofs.Common.{◌≡◌, drop}
use Rattle.replays.specs.Replays.{listed_in, replay_of}
use Rattle.replays.proofs.replay_into.Given as goal

-- what the records that are left give from here on is what all of them give
abbrev pub invariant-loop-i : goal.invariant-loop-i
invariant-loop-i l = replay_of l.image (drop l.i (listed_in l.records)) l.book l.results l.i ≡ replay_of l.image (listed_in l.records) l.fn.book l.fn.results 0
