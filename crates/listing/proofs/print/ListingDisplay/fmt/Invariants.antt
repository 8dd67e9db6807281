use Rattle.std.proofs.Common.{take}
use Rattle.std.specs.Fmt.{HasWritten, IsPlainFormatter}
use Rattle.listing.specs.Printing.{listing_of}
use Rattle.listing.proofs.print.ListingDisplay.fmt.Given as goal

-- what is written is the listing of the outcomes that were passed
abbrev pub invariant-loop-i : goal.invariant-loop-i
invariant-loop-i g l =
    IsPlainFormatter l.initial.f
    → HasWritten g.W.Write.write_str_gives l.initial.f (listing_of l.self.first_line (take l.i l.self.outcomes.now)) l.f
