-- A listing, with the line behind it, is what a reader of traces passes over.
use Rattle.std.proofs.Common.{◌≡◌, false, ℕ, List, [], ◌∷◌, ◌++◌, length, map, flat_map, codes, refl, ap, sym, ◌∙◌}
use Rattle.std.specs.List.{AllByRecursion}
use Rattle.std.proofs.lemmas.List.Concat.{flat_map-append}
use Rattle.rt_lemmas.proofs.Lists.{all_append, all_map, none_asked}
use Rattle.rt_code.specs.Image.{Image}
use Rattle.rt_code.specs.Lines.{HasLines}
use Rattle.rt_lines.proofs.Unbroken.{IsUnbroken, fed}
use Rattle.rt_listing.specs.Listing.{listing}
use Rattle.rt_listing.proofs.Lines.{row_text, first_row, cell_rows, listing_rows, IsFreeRow, row_unbroken}
use Rattle.rt_listing.proofs.Lines.{rows_all}
use Rattle.rt_trace.specs.Reading.{ends_listing}
use Rattle.rt_trace.specs.TraceLines.{IsListing}
use Rattle.rt_load.proofs.Split.{listing_fed, rows_unbroken}

-- what is passed over
abbrev pub heading_of : Image → List (List ℕ)
heading_of img = map row_text (listing_rows img) ++ codes "trace" ∷ []

pub heading_fed : (img : Image) → listing img ++ codes "trace\n" ≡ flat_map fed (heading_of img)
heading_fed img =
    ap (λ t. t ++ codes "trace\n") (listing_fed img)
    ∙ sym (flat_map-append fed (map row_text (listing_rows img)) (codes "trace" ∷ []))

pub heading_unbroken : (img : Image) → HasLines img → AllByRecursion IsUnbroken (heading_of img)
heading_unbroken img lines =
    all_append IsUnbroken (map row_text (listing_rows img)) (codes "trace" ∷ [])
    (all_map row_text (IsFreeRow 10) IsUnbroken row_unbroken (listing_rows img) (rows_unbroken img lines.listable))
    ((refl, (refl, (refl, (refl, (refl, tt))))), tt)

-- no line of a listing is the line behind it
rows_endless : (img : Image) → AllByRecursion (λ row. ends_listing (row_text row) ≡ false) (listing_rows img)
rows_endless img =
    rows_all (λ row. ends_listing (row_text row) ≡ false) (λ cell. Unit {0}) (λ row. Unit {0}) img refl
    (λ n cell any. refl) (λ row any. refl) (λ row. refl) (λ n code. refl) (none_asked img.cells) (none_asked img.irqs)

pub heading_passed : (img : Image) → IsListing (heading_of img)
heading_passed img =
    let endless = rows_endless img in
    record {
      first = row_text (first_row img (length img.code) (length img.cells));
      more = map row_text (cell_rows img.names img);
      parts = refl;
      begins = refl;
      endless = all_map row_text (λ row. ends_listing (row_text row) ≡ false) (λ line. ends_listing line ≡ false)
          (λ row e. e) (cell_rows img.names img) endless.1;
    }
