-- A page worked out by hand, by computation.
use mathlib.Core.Path.{refl}
use Rattle.measures.specs.Rounding.{rounded}
use Rattle.entries.specs.Kinds.{kind_of}
use Rattle.entries.specs.Ranges.{limits_of, between, named_fits, b_fits, in_range_of}
use Rattle.decimal.specs.Decimal.{digits_in, digits, dollars, right}
use Rattle.pages.specs.Rows.{blank_row, account_row, figure_row, entry_row, entry_rows, text_of}
use Rattle.history.specs.History.{last_serial, points, names, find, named, filter, sum, fate, move_by, balance, judge_by, offer}
use Rattle.history.specs.Queries.{statement_in, entry_line_in, entry_lines_in, page_text_in, page_in}
use Rattle.history.specs.PageFigures.{PageFigures}

pub page_figures : PageFigures
unfolding rounded kind_of limits_of between named_fits b_fits in_range_of digits_in digits dollars right blank_row account_row figure_row entry_row entry_rows text_of last_serial points names find named filter sum fate move_by balance judge_by offer statement_in entry_line_in entry_lines_in page_text_in page_in
page_figures = record { written = refl; short = refl; unknown = refl }
