-- `entropy::token_value` meets its contract. Assumes nothing.
use Rattle.std.proofs.Common.{◌≡◌, ℕ, ◌*◌, ◌%◌, ◌^◌, ◌<◌, ◌≤◌, sym, ap, ◌∙◌, arith}
use Rattle.model.specs.Token.{extra_count}
use Rattle.model.specs.Operations.{accepted}
use Rattle.model.proofs.Tokens.{count_fits, small-value, value-fits, reads, refuses_token, refuses_extra}
use Rattle.entropy.proofs.Words.{shl_one, word_value}
use Rattle.entropy.proofs.token_value.Goals as goal

-- a token t of at most 127 and its count n
module _ (t n : ℕ) (le : t ≤ 127) (is : n ≡ extra_count t) where
  shift : n < 32
  shift = omega (arith, is, count_fits t le)

  -- the limit that the extra bits are held to
  limit : (1 * 2 ^ n) % 2 ^ 32 ≡ 2 ^ extra_count t
  limit = rw (shl_one n shift, is)

pub returns-then-token-gt127 : goal.returns-then-token-gt127
returns-then-token-gt127 c = sym (refuses_token c.args.token c.args.extra c.if-token-gt127.true)

pub overflow_shl-nbits : goal.overflow_shl-nbits
overflow_shl-nbits c = shift c.args.token c.extra_count-nbits.result c.if-token-gt127.false c.extra_count-nbits.ensures

pub returns-then-extra-nbits : goal.returns-then-extra-nbits
returns-then-extra-nbits c =
    let few = rw (limit c.args.token c.extra_count-nbits.result c.if-token-gt127.false c.extra_count-nbits.ensures) at c.if-extra-nbits.true in
    sym (refuses_extra c.args.token c.args.extra c.if-token-gt127.false few)

pub returns-then-token-lt16 : goal.returns-then-token-lt16
returns-then-token-lt16 c = let few = rw (limit c.args.token c.extra_count-nbits.result c.if-token-gt127.false c.extra_count-nbits.ensures) at c.if-extra-nbits.false in
    sym (reads c.args.token c.args.extra c.if-token-gt127.false few ∙ ap accepted (small-value c.args.token c.args.extra c.if-token-lt16.true))

pub overflow_shl-result : goal.overflow_shl-result
overflow_shl-result c = shift c.args.token c.extra_count-nbits.result c.if-token-gt127.false c.extra_count-nbits.ensures

pub overflow_add-result-2 : goal.overflow_add-result-2
overflow_add-result-2 c = let few = rw (limit c.args.token c.extra_count-nbits.result c.if-token-gt127.false c.extra_count-nbits.ensures) at c.if-extra-nbits.false in
    rw (c.extra_count-nbits.ensures, word_value c.args.token c.args.extra c.if-token-lt16.false c.if-token-gt127.false few) (record { fits = value-fits c.args.token c.args.extra c.if-token-gt127.false few })

pub returns : goal.returns
returns c = let few = rw (limit c.args.token c.extra_count-nbits.result c.if-token-gt127.false c.extra_count-nbits.ensures) at c.if-extra-nbits.false in
    rw (c.extra_count-nbits.ensures, word_value c.args.token c.args.extra c.if-token-lt16.false c.if-token-gt127.false few) (sym (reads c.args.token c.args.extra c.if-token-gt127.false few))
