-- Head, contents, bodies: a fault stays, and without one the next list decides. A head without a fault makes the contents
-- readable, contents without one say that the bodies end where the file does. Assumes nothing.
use Rattle.std.proofs.Common.{List, ℕ, ◌≡◌, ◌∙◌, sym, Ok, arith}
use Rattle.entries.specs.Tests.{Tested, first_fault}
use Rattle.template.specs.Order.{head_tests, contents_tests, bodies, tests}
use Rattle.entries.proofs.OrderLaws.{passed_on, first_stays, first_passes}
use Rattle.template.proofs.FileLaws.{head_length, contents_length, answers_bad, answers_sound}
use Rattle.template.proofs.read_of.Goals as goal

-- what is behind head and contents

after_both : (symbols : ℕ) (file : List ℕ) {f g h : Tested} → f ≡ first_fault (head_tests file) → f ≡ Ok tt
    → g ≡ first_fault (contents_tests symbols file) → g ≡ Ok tt → h ≡ first_fault (bodies symbols file)
    → h ≡ first_fault (tests symbols file)
unfolding tests
after_both symbols file head passed contents fits rest =
    first_passes (head_tests file) _ head passed (first_passes (contents_tests symbols file) _ contents fits rest)

-- the answers

pub returns-in_err-test_head : goal.returns-in_err-test_head
unfolding tests
returns-in_err-test_head c =
    passed_on c.from_residual.result c.from_residual.ensures.1
    ∙ answers_bad c.args.symbols c.args.file.now (first_stays (head_tests c.args.file.now) _ c.test_head.ensures c.in_err-test_head.was)

pub test_contents-requires : goal.test_contents-requires
test_contents-requires c = head_length c.args.file.now (sym c.test_head.ensures ∙ c.in_ok-test_head.was)

pub returns-in_err-test_contents : goal.returns-in_err-test_contents
unfolding tests
returns-in_err-test_contents c =
    passed_on c.from_residual-in_err-test_contents.result c.from_residual-in_err-test_contents.ensures.1
    ∙ answers_bad c.args.symbols c.args.file.now
    (first_passes (head_tests c.args.file.now) _ c.test_head.ensures c.in_ok-test_head.was
    (first_stays (contents_tests c.args.symbols c.args.file.now) _ c.test_contents.ensures c.in_err-test_contents.was))

pub shape_of-s-requires : goal.shape_of-s-requires
shape_of-s-requires c = head_length c.args.file.now (sym c.test_head.ensures ∙ c.in_ok-test_head.was)

pub test_bodies-requires-clause-file_in_bounds : goal.test_bodies-requires-clause-file_in_bounds
test_bodies-requires-clause-file_in_bounds c =
    omega (arith, contents_length c.args.symbols c.args.file.now (sym c.test_contents.ensures ∙ c.in_ok-test_contents.was))

pub returns-in_err-test_bodies : goal.returns-in_err-test_bodies
returns-in_err-test_bodies c =
    passed_on c.from_residual-in_err-test_bodies.result c.from_residual-in_err-test_bodies.ensures.1
    ∙ answers_bad c.args.symbols c.args.file.now
    (after_both c.args.symbols c.args.file.now c.test_head.ensures c.in_ok-test_head.was c.test_contents.ensures c.in_ok-test_contents.was
    (sym c.in_err-test_bodies.was ∙ c.test_bodies.ensures))

pub returns : goal.returns
returns c =
    answers_sound c.args.symbols c.args.file.now c.shape_of-s.ensures
    (after_both c.args.symbols c.args.file.now c.test_head.ensures c.in_ok-test_head.was c.test_contents.ensures c.in_ok-test_contents.was
    (sym c.in_ok-test_bodies.was ∙ c.test_bodies.ensures))
