-- `entropy::uint_encode` meets its contract. Assumes nothing.
use Rattle.std.proofs.Common.{sym, arith}
use Rattle.model.proofs.Tokens.{small-token, small_count, small-bits, token-fits}
use Rattle.entropy.proofs.Words.{place_least, top-value, word-token, word_count, word-bits, encoded-is}
use Rattle.entropy.proofs.uint_encode.Goals as goal

pub returns-then-value-lt16 : goal.returns-then-value-lt16
returns-then-value-lt16 c = let v = c.args.value in
    let less = c.if-value-lt16.true in
    encoded-is v _ _ _ (sym (small-token v less)) (rw (small-token v less) (sym (small_count v less))) (sym (small-bits v less))

pub overflow_sub-m : goal.overflow_sub-m
overflow_sub-m c = top-value c.args.value c.if-value-lt16.false c.ranges.value

pub overflow_sub-nbits : goal.overflow_sub-nbits
overflow_sub-nbits c = omega (arith, place_least c.args.value c.if-value-lt16.false c.ranges.value)

pub overflow_add-token : goal.overflow_add-token
overflow_add-token c = let v = c.args.value in
    omega (arith, word-token v c.if-value-lt16.false c.ranges.value, token-fits v c.ranges.value.fits)

pub returns : goal.returns
returns c = let v = c.args.value in
    let fits = c.ranges.value in
    encoded-is v _ _ _ (word-token v c.if-value-lt16.false fits) (word_count v c.if-value-lt16.false fits) (word-bits v c.if-value-lt16.false fits)
