-- Different listable images over the same names, whose numbers are of 64 bits, have different texts.
use Rattle.std.specs.Prelude.{◌≡◌}
use Rattle.rt_code.specs.Image.{Image}
use Rattle.rt_code.specs.Listable.{IsListable}
use Rattle.rt_listing.specs.Listing.{listing}
use Rattle.rt_listing.specs.Numbers.{HasShortNumbers}

-- two images over the same names that have one listing are one image
abbrev pub TellsImagesApart : Type 0
TellsImagesApart =
    (a b : Image) → IsListable a → IsListable b → HasShortNumbers a → HasShortNumbers b → a.names ≡ b.names → listing a
    ≡ listing b → a ≡ b
