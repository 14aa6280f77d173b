-- The shape's numbers are the file's, so each body fits into the file and its fault is that of the file's own body: a fault stays,
-- and without one the next body decides. Assumes nothing.
use Rattle.std.proofs.Common.{◌≡◌, ◌+◌, ◌*◌, ℕ, List, ◌∙◌, ap, refl, arith}
use Rattle.entries.specs.Entries.{width, rule_width}
use Rattle.entries.specs.declared.Body.TheVariants.{Templates, Schema, Endings}
use Rattle.template.specs.declared.Shape.{Shape}
use Rattle.template.specs.Layout.{first_body, schema_start_of}
use Rattle.template.specs.Order.{bodies, shape_of}
use Rattle.entries.proofs.OrderLaws.{passed_on, first_stays, first_passes}
use Rattle.template.proofs.FileLaws.{template_tests, schema_tests, body_of}
use Rattle.template.proofs.test_bodies.Goals as goal

-- a number of a shape is the same number of one that is equal: so the shape's counts are the file's

count_is : (count : Shape → ℕ) {s t : Shape} {n : ℕ} → n ≡ count s → s ≡ t → n ≡ count t
count_is count e d = e ∙ ap count d

-- where a body begins

start_is : {a b m n : ℕ} → a ≡ b → m ≡ n → a + 4 * m ≡ b + 4 * n
start_is e d = rw (e, d)

second_is : (symbols : ℕ) (file : List ℕ) {s : Shape} {a : ℕ} → a ≡ rule_width symbols * s.templates → s ≡ shape_of file
    → first_body + a ≡ schema_start_of symbols file
second_is symbols file at e = rw (at, e)

-- the answers

pub test_body-requires : goal.test_body-requires
unfolding width
test_body-requires c =
    let templates = count_is (λ (s : Shape). s.templates) c.from-2.ensures c.requires.s_value in
    rw templates (omega (arith, c.requires.file_in_bounds))

pub returns-in_err-test_body : goal.returns-in_err-test_body
unfolding bodies
returns-in_err-test_body c =
    let file = c.args.file.now in
    passed_on c.from_residual.result c.from_residual.ensures.1
    ∙ first_stays (template_tests _ file) _
    (body_of (Templates c.args.symbols) file c.test_body.ensures c.requires.s_value refl
    (count_is (λ (s : Shape). s.templates) c.from-2.ensures c.requires.s_value)) c.in_err-test_body.was

pub test_body-requires-2 : goal.test_body-requires-2
unfolding width
test_body-requires-2 c =
    let second = second_is c.args.symbols c.args.file.now c.rules_bytes-second.ensures.0 c.requires.s_value in
    let schema = count_is (λ (s : Shape). s.schema) c.from-3.ensures c.requires.s_value in
    omega (arith, second, schema, c.requires.file_in_bounds)

pub returns-in_err-test_body-2 : goal.returns-in_err-test_body-2
unfolding bodies
returns-in_err-test_body-2 c =
    let file = c.args.file.now in
    passed_on c.from_residual-in_err-test_body-2.result c.from_residual-in_err-test_body-2.ensures.1
    ∙ first_passes (template_tests _ file) _
    (body_of (Templates c.args.symbols) file c.test_body.ensures c.requires.s_value refl
    (count_is (λ (s : Shape). s.templates) c.from-2.ensures c.requires.s_value)) c.in_ok-test_body.was
    (first_stays (schema_tests _ file) _
    (body_of Schema file c.test_body-2.ensures c.requires.s_value
    (second_is c.args.symbols file c.rules_bytes-second.ensures.0 c.requires.s_value)
    (count_is (λ (s : Shape). s.schema) c.from-3.ensures c.requires.s_value)) c.in_err-test_body-2.was)

pub test_body-requires-3 : goal.test_body-requires-3
unfolding width
test_body-requires-3 c =
    let second = second_is c.args.symbols c.args.file.now c.rules_bytes-second.ensures.0 c.requires.s_value in
    let schema = count_is (λ (s : Shape). s.schema) c.from.ensures c.requires.s_value in
    let endings = count_is (λ (s : Shape). s.endings) c.from-4.ensures c.requires.s_value in
    omega (arith, second, schema, endings, c.requires.file_in_bounds)

pub returns : goal.returns
unfolding bodies
returns c =
    let file = c.args.file.now in
    let second = second_is c.args.symbols file c.rules_bytes-second.ensures.0 c.requires.s_value in
    first_passes (template_tests _ file) _
    (body_of (Templates c.args.symbols) file c.test_body.ensures c.requires.s_value refl
    (count_is (λ (s : Shape). s.templates) c.from-2.ensures c.requires.s_value)) c.in_ok-test_body.was
    (first_passes (schema_tests _ file) _
    (body_of Schema file c.test_body-2.ensures c.requires.s_value second
    (count_is (λ (s : Shape). s.schema) c.from-3.ensures c.requires.s_value)) c.in_ok-test_body-2.was
    (body_of Endings file c.test_body-3.ensures c.requires.s_value
    (start_is second (count_is (λ (s : Shape). s.schema) c.from.ensures c.requires.s_value))
    (count_is (λ (s : Shape). s.endings) c.from-4.ensures c.requires.s_value)))
