-- Two walks letter by letter: in each turn both positions go on round.
use mathlib.Core.Path.{sym, ◌∙◌}
use native.Mathlib.Omega.{arith}
use Rattle.word.proofs.WalkQuestions.{lengths_in}
use Rattle.spelling.proofs.Comparing.{goes_from, goes_next, goes_here, same_further, differ_at, agree_up_to}
use Rattle.spelling.proofs.same.same_letters.Goals as goal

pub overflow_add-count-2 : goal.overflow_add-count-2
overflow_add-count-2 c =
    omega (arith, c.max-lead.ensures, lengths_in _ _ c.args.first.now.fits, lengths_in _ _ c.args.second.now.fits)

pub overflow_sub-count : goal.overflow_sub-count
overflow_sub-count c =
    omega (arith, (lengths_in _ _ c.args.first.now.fits).1, (lengths_in _ _ c.args.second.now.fits).1)

pub loop-init : goal.loop-init
loop-init c = record {
  same = λ p h. absurd (omega arith);
  goes = goes_from _ _ (lengths_in _ _ c.args.first.now.fits).1;
  goes' = goes_from _ _ (lengths_in _ _ c.args.second.now.fits).1;
}

pub returns-then-letter-letter2 : goal.returns-then-letter-letter2
returns-then-letter-letter2 c =
    let inv = c.loop.invariant in
    differ_at _ _ _ _ _ (λ same. c.if-letter-letter2.true (c.letter_at-letter.ensures ∙ sym (goes_here _ _ inv.goes) ∙ same ∙ goes_here _ _ inv.goes'
    ∙ sym c.letter_at-letter2.ensures))

pub loop-preserved : goal.loop-preserved
loop-preserved c =
    let inv = c.loop.invariant in
    let letters = sym c.letter_at-letter.ensures ∙ c.if-letter-letter2.false ∙ c.letter_at-letter2.ensures in
    record {
      same = same_further _ _ _ _ _ inv.same (goes_here _ _ inv.goes ∙ letters ∙ sym (goes_here _ _ inv.goes'));
      goes = rw c.position_after-position.ensures (goes_next _ _ (lengths_in _ _ c.args.first.now.fits).1 _ _ inv.goes);
      goes' = rw c.position_after-position2.ensures (goes_next _ _ (lengths_in _ _ c.args.second.now.fits).1 _ _ inv.goes');
    }

pub returns : goal.returns
returns c =
    agree_up_to _ _ _ _ c.args.first.now.fits c.args.second.now.fits
    (λ p h. c.loop.invariant.same p (omega (arith, c.loop-test.false, c.max-lead.ensures)))
