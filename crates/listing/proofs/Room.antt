-- A run that has a text has a place for each of its records and calls.
use Rattle.std.proofs.Common.{arith}
use Rattle.runtext.proofs.Sizes.{few_calls}
use Rattle.listing.specs.Listings.{RoomForAll}

pub room_for_all : RoomForAll
room_for_all q spellable = record { spellable = spellable; words = spellable.words; keys = spellable.keys; calls = omega (arith, few_calls q, spellable.short) }
