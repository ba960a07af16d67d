use Rattle.std.proofs.Common.{◌+◌, ◌*◌, ◌≤◌, ◌≡◌, ◌++◌, length, drop}
use Rattle.lines.specs.Lines.{numbers_of, line_of}
use Rattle.lines.proofs.line.Given as goal

abbrev pub invariant-loop-n : goal.invariant-loop-n
invariant-loop-n l = record {
  begun : l.line ++ numbers_of (drop l.n-index l.numbers) ≡ line_of l.word l.numbers;
  short : length l.line ≤ length l.word + 21 * l.n-index;
}
