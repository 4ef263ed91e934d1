-- `listing::list_header` meets its contract. Assumes nothing.
use native.Mathlib.Omega.{arith}
use borrow.Author.Tests.{lt-ltb, le-ltb}
use lib.ListN.{length}
use Rattle.listing.specs.Text.{codes}
use Rattle.listing.specs.Listing.{header, header_in}
use Rattle.listing.proofs.Writing.{wrote_none, from_front}
use Rattle.listing.proofs.list_header.Goals as goal

pub returns-then-out-lt32 : goal.returns-then-out-lt32
unfolding header_in
returns-then-out-lt32 c =
    let out = c.args.out.now in
    let w = from_front (wrote_none out 0) (omega arith) in
    rw (lt-ltb (length out) 32 c.if-out-lt32.true) (record { answer = w.0; text = w.1.0; fits = w.1.1 })

pub returns : goal.returns
unfolding header_in header codes
returns c =
    let out = c.args.out.now in
    let w = from_front c.text.ensures (omega arith) in
    rw (le-ltb (length out) 32 c.if-out-lt32.false) (record { answer = w.0; text = w.1.0; fits = w.1.1 })
