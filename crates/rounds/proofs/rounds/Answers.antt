-- At the loop's head the rounds stand after round r (StateLaws), and r is within the budget. The walk of the next round meets an event,
-- which decides, or leads to a pass or to the next state (EndLaws); each return is one of the ways in which the rounds end. What the walk
-- asks and says is of the part of the file that holds its rules, and so of the file's rules (PartLaws). Assumes nothing.
use mathlib.Core.Path.{◌≡◌}
use mathlib.Core.List.{List}
use Prim.Native.Nat.{ℕ, ◌<◌}
use Rattle.std.specs.Prelude.{Option, Result}
use Rattle.template.specs.Order.{reading}
use Rattle.std.specs.Prelude.{Ok}
use Rattle.template.specs.declared.Shape.{Shape}
use Rattle.template.proofs.ShapeLaws.{shape_sound}
use Rattle.schema.specs.Schemas.{LoreOf}
use Rattle.view.specs.Views.{templates_by}
use Rattle.pairs.specs.Books.{book_of}
use Rattle.pairs.specs.declared.Tally.{Tally}
use Rattle.walk.specs.Walks.{ProperRows, RoundBegins, Walked}
use Rattle.shares.specs.Shares.{Shares}
use Rattle.rounds.specs.Checks.{HasPage, Lent}
use Rattle.rounds.specs.Walking.{Met}
use Rattle.rounds.specs.declared.Event.{Event}
use Rattle.rounds.proofs.PartLaws.{part_viewed, of_part, of_file, part_in_range, part_few}
use Rattle.rounds.proofs.StateLaws.{AfterRound, start_state, next_round, state_begins}
use Rattle.rounds.proofs.EndLaws.{Turn, ends_used, ends_event, ends_passed, goes_on}
use Rattle.rounds.proofs.rounds.Goals as goal

-- the state at the loop's head, the walk from it, and the event that it met
turn : (f lore t₀ t t' : List ℕ) (budget r prev n : ℕ) (w : Option Tally) (e : Result ℕ Event) {shape : Shape} {part : List ℕ}
    → reading f ≡ Ok shape → LoreOf f lore → HasPage f → Lent f t₀ budget → AfterRound f lore t₀ t r prev n → r < budget
    → part ≡ templates_by f shape → Walked lore part (book_of t n) w t' → Met w e → Turn f lore t₀ t t' budget r prev n w e
turn f lore t₀ t t' budget r prev n w e {shape} {part} sound taught page lent state within is walked told =
    record {
      lent = lent;
      sound = shape_sound f shape sound;
      taught = taught;
      page = page;
      state = state;
      within = within;
      walked = of_file f sound is (λ rules. Walked lore rules (book_of t n) w t') walked;
      told = told;
    }

pub loop-r-init : goal.loop-r-init
loop-r-init c = start_state c.args.sound.file.now c.args.lore.now.entries c.args.table.now c.requires.lent.0

pub walk_round-walked-requires : goal.walk_round-walked-requires
walk_round-walked-requires c =
    let f = c.args.sound.file.now in
    let lore = c.args.lore.now.entries in
    let sound = c.args.sound.is_read in
    let whole = shape_sound f c.args.sound.shape sound in
    let part = part_viewed c.args.sound.shape c.of.ensures c.templates-rules.ensures in
    let state = c.loop-r.invariant in
    let round = next_round c.loop-r.r c.loop-r.prev c.loop-r.n in
    record {
      rules_in_range = part_in_range f sound part;
      shares = of_part f sound part (λ rules. Shares rules c.args.shares.now) c.requires.shares;
      rules_len_bound = part_few f sound part;
      proper_rows = of_part f sound part (λ rules. ProperRows lore rules (book_of c.loop-r.table c.loop-r.n)) state.proper_rows;
      round_begins =
          of_part f sound part (λ rules. RoundBegins lore rules c.loop-r.table round)
          (state_begins f lore whole c.requires.lore_of _ _ c.loop-r.r _ _ state);
    }

pub returns-in-Err : goal.returns-in-Err
returns-in-Err c =
    ends_event
    (turn _ _ _ _ _ _ _ _ _ _ _ c.args.sound.is_read c.requires.lore_of c.requires.has_page c.requires.lent c.loop-r.invariant
    c.loop-r-test.true (part_viewed c.args.sound.shape c.of.ensures c.templates-rules.ensures) c.walk_round-walked.ensures c.in-Err.ensures)
    c.event_refusal.ensures c.wipe.ensures

pub returns-then-m-n : goal.returns-then-m-n
returns-then-m-n c =
    ends_passed
    (turn _ _ _ _ _ _ _ _ _ _ _ c.args.sound.is_read c.requires.lore_of c.requires.has_page c.requires.lent c.loop-r.invariant
    c.loop-r-test.true (part_viewed c.args.sound.shape c.of.ensures c.templates-rules.ensures) c.walk_round-walked.ensures c.in-Ok.ensures)
    c.if-m-n.true c.sort.ensures c.clear.ensures

pub loop-r-preserved : goal.loop-r-preserved
loop-r-preserved c =
    (goes_on
    (turn _ _ _ _ _ _ _ _ _ _ _ c.args.sound.is_read c.requires.lore_of c.requires.has_page c.requires.lent c.loop-r.invariant
    c.loop-r-test.true (part_viewed c.args.sound.shape c.of.ensures c.templates-rules.ensures) c.walk_round-walked.ensures c.in-Ok.ensures)
    c.if-m-n.false).1

pub returns : goal.returns
returns c =
    ends_used c.requires.lent (shape_sound c.args.sound.file.now c.args.sound.shape c.args.sound.is_read) c.requires.has_page c.loop-r.invariant
    c.loop-r-test.false c.wipe-2.ensures
