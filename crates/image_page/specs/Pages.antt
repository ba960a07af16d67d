-- The page of an account of an image.
use Rattle.std.specs.Prelude.{ℕ, cond, List, eqb}
use Rattle.loads.specs.Given.{bytes_given}
use Rattle.loads.specs.Loaded.{LoadedReply}
use Rattle.loads.specs.declared.given.BytesGiven.{BytesGiven}
use Rattle.pages.specs.Pages.{PageExit, page_of}

-- what a page of an image gives, and its output at the end
pub record PageImageExit : Type 0 where
  pub given : BytesGiven
  pub output : List ℕ

abbrev pub page_image_exit : PageExit → PageImageExit
page_image_exit x = record { given = bytes_given x.refusal 0 x.bytes; output = x.buffer }

-- a refused image: the number, its record, and nothing is written; else the page
unfoldable pub page_image : LoadedReply → ℕ → List ℕ → PageImageExit
page_image l account output =
    cond (eqb l.refusal 0) (page_image_exit (page_of l.book account output))
    (record { given = bytes_given l.refusal l.faulty 0; output = output })
