-- When the listing's own refusals are given.
-- Assumes nothing.
use Prim.Native.Nat.{◌+◌}
use mathlib.Core.Path.{refl}
use lib.ListN.{length}
use Rattle.refusals.proofs.Orders.{exactly, not_refused, leb_fails}
use Rattle.octets.specs.Parts.{has_room}
use Rattle.listing_rules.specs.Lines.{listing, listing_writing}
use Rattle.listing_rules.specs.Orders.{ListedExactly, ListingWritingExactly}
use Rattle.listing_rules.proofs.ListingLaws.{listing_above, listing-behind}

pub listed-exactly : ListedExactly
listed-exactly s = record { above = listing_above s; within = λ h. listing-behind s h refl }

pub listing-writing-exactly : ListingWritingExactly
unfolding listing_writing
listing-writing-exactly size at s =
    exactly (has_room size at (length (listing s))) _ _ (leb_fails (at + length (listing s)) size) not_refused refl
