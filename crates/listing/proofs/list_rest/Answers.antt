-- `listing::list_rest` meets its contract. Assumes nothing.
use native.Mathlib.Omega.{arith}
use borrow.Author.Tests.{lt-ltb, le-ltb}
use Prim.Native.Nat.{◌%◌}
use lib.ListN.{length}
use Rattle.listing.specs.Listing.{short_of, rest_in}
use Rattle.listing.proofs.Writing.{wrote_none, from_front}
use Rattle.listing.proofs.Lines.{short-length}
use Rattle.listing.proofs.list_rest.Goals as goal

pub returns-then-out-lt8 : goal.returns-then-out-lt8
unfolding rest_in
returns-then-out-lt8 c =
    let out = c.args.out.now in
    let w = from_front (wrote_none out 0) (omega arith) in
    rw (lt-ltb (length out) 8 c.if-out-lt8.true) (record { answer = w.0; text = w.1.0; fits = w.1.1 })

pub returns-then-left-eq0 : goal.returns-then-left-eq0
unfolding rest_in short_of
returns-then-left-eq0 c =
    let out = c.args.out.now in
    let w = from_front (wrote_none out 0) (omega arith) in
    rw (le-ltb (length out) 8 c.if-out-lt8.false, c.if-left-eq0.true) (record { answer = w.0; text = w.1.0; fits = w.1.1 })

pub short-requires : goal.short-requires
short-requires c = let input = c.args.input.now in
    (omega arith, omega (arith, short-length (length input % 4) (omega arith)))

pub returns : goal.returns
unfolding rest_in
returns c =
    let out = c.args.out.now in
    let w = from_front c.short.ensures (omega (arith, short-length (length c.args.input.now % 4) (omega arith))) in
    rw (le-ltb (length out) 8 c.if-out-lt8.false) (record { answer = w.0; text = w.1.0; fits = w.1.1 })
