-- `listing::put::decimal` meets its contract. Assumes nothing.
use mathlib.Core.List.{List, [], ◌∷◌, ◌++◌}
use Prim.Native.Nat.{ℕ, ◌/◌, ◌%◌, ◌≤◌}
use native.Mathlib.Omega.{arith}
use Rattle.listing.specs.Text.{digit, decimal, Room}
use Rattle.listing.proofs.Writing.{room-left, room-more, wrote-more}
use Rattle.listing.proofs.Decimal.{decimal-one, decimal-more}
use Rattle.listing.proofs.put.+decimal.Goals as goal

-- what is asked of the room, with the last digit apart
room : (out : List ℕ) (at n : ℕ) → Room out at (decimal n) → 10 ≤ n → Room out at (decimal (n / 10) ++ (digit (n % 10) ∷ []))
room out at n there large = rw (decimal-more n large) at there

pub byte-requires : goal.byte-requires
byte-requires t c = rw (decimal-one c.args.n c.if-n-lt10.true) at c.requires

pub returns-then-n-lt10 : goal.returns-then-n-lt10
returns-then-n-lt10 t c = rw (decimal-one c.args.n c.if-n-lt10.true) c.byte.ensures

pub decimal-last-requires : goal.decimal-last-requires
decimal-last-requires t c =
    let n = c.args.n in
    (omega arith, room-left c.args.out.now c.args.at (decimal (n / 10)) (digit (n % 10) ∷ []) (room c.args.out.now c.args.at n c.requires c.if-n-lt10.false))

pub byte-requires-2 : goal.byte-requires-2
byte-requires-2 t c =
    let n = c.args.n in
    room-more c.decimal-last.ensures (digit (n % 10) ∷ []) (room c.args.out.now c.args.at n c.requires c.if-n-lt10.false)

pub returns : goal.returns
returns t c =
    let n = c.args.n in
    let large = c.if-n-lt10.false in
    rw (decimal-more n large) (wrote-more c.decimal-last.ensures c.byte-2.ensures (room c.args.out.now c.args.at n c.requires large))
