use Rattle.std.proofs.Common.{◌≡◌, ◌-◌, ◌*◌, ◌≤◌, length}
use Rattle.lines.specs.Lines.{longest_line}
use Rattle.printer.specs.Printed.{account_lines}
use Rattle.printer.proofs.book_lines.Given as goal

abbrev pub invariant-loop-account : goal.invariant-loop-account
invariant-loop-account l = record {
  lines : l.text ≡ account_lines l.book (l.account - 1);
  short : length l.text ≤ longest_line * (l.account - 1);
}
