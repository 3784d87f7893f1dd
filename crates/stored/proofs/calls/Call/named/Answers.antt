-- The call of a name.
use Rattle.notation.proofs.Testing.{tests_not}
use Rattle.stored.specs.Calls.{name_of}
use Rattle.stored.proofs.CallNames.{no_name_lem}
use Rattle.stored.proofs.calls.Call.named.Goals as goal

pub returns-then-same : goal.returns-then-same
unfolding name_of
returns-then-same c =
    c.same.ensures.0 c.if-same.true

pub returns-then-same-2 : goal.returns-then-same-2
unfolding name_of
returns-then-same-2 c =
    c.same-2.ensures.0 c.if-same-2.true

pub returns-then-same-3 : goal.returns-then-same-3
unfolding name_of
returns-then-same-3 c =
    c.same-3.ensures.0 c.if-same-3.true

pub returns-then-same-4 : goal.returns-then-same-4
unfolding name_of
returns-then-same-4 c =
    c.same-4.ensures.0 c.if-same-4.true

pub returns-then-same-5 : goal.returns-then-same-5
unfolding name_of
returns-then-same-5 c =
    c.same-5.ensures.0 c.if-same-5.true

pub returns-then-same-6 : goal.returns-then-same-6
unfolding name_of
returns-then-same-6 c =
    c.same-6.ensures.0 c.if-same-6.true

pub returns-then-same-7 : goal.returns-then-same-7
unfolding name_of
returns-then-same-7 c =
    c.same-7.ensures.0 c.if-same-7.true

pub returns-then-same-8 : goal.returns-then-same-8
unfolding name_of
returns-then-same-8 c =
    c.same-8.ensures.0 c.if-same-8.true

pub returns : goal.returns
unfolding name_of
returns c =
    no_name_lem _ (tests_not c.same.ensures c.if-same.false) (tests_not c.same-2.ensures c.if-same-2.false)
    (tests_not c.same-3.ensures c.if-same-3.false) (tests_not c.same-4.ensures c.if-same-4.false)
    (tests_not c.same-5.ensures c.if-same-5.false) (tests_not c.same-6.ensures c.if-same-6.false)
    (tests_not c.same-7.ensures c.if-same-7.false) (tests_not c.same-8.ensures c.if-same-8.false)
