-- The lines of a listing.
use Rattle.std.proofs.Common.{◌≡◌, map, flat_map, sym, ◌∙◌, arith, refl}
use Rattle.std.specs.List.{AllByRecursion}
use Rattle.rt_lines.specs.Parts.{line_with_feed}
use Rattle.rt_lemmas.proofs.Lists.{all_map, flat_map-map}
use Rattle.rt_code.specs.Image.{Image}
use Rattle.rt_code.specs.Listable.{IsListable}
use Rattle.rt_listing.specs.Listing.{listing}
use Rattle.rt_listing.proofs.Apart.{free_of}
use Rattle.rt_listing.proofs.Lines.{row_text, listing_rows, listing_text, IsFreeRow, rows_free}
use Rattle.rt_load.specs.Loadable.{IsLoadable}
use Rattle.rt_load.specs.Reading.{IsOneLine}
use Rattle.rt_load.proofs.{Lines.line_of_free, Forward.listing_lines}

pub listing_fed : (img : Image) → listing img ≡ flat_map line_with_feed (map row_text (listing_rows img))
listing_fed img = listing_text img ∙ sym (flat_map-map line_with_feed row_text (listing_rows img))

pub rows_unbroken : (img : Image) → IsListable img → AllByRecursion (IsFreeRow 10) (listing_rows img)
rows_unbroken img is = rows_free 10 refl (refl, tt) (refl, tt) img (free_of 10 (1, omega arith, refl) img is)

pub are_lines : (img : Image) (l : IsLoadable img) → AllByRecursion IsOneLine (listing_lines img l)
are_lines img l = all_map row_text (IsFreeRow 10) IsOneLine line_of_free (listing_rows img)
    (rows_unbroken img l.listable)
