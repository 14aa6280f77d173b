-- Each loop says where the walk from the lent table stands, and behind the head of a rule what is found at it (PlaceLaws); the stages of
-- VisitLaws and RoundLaws lead from one place to the next. Assumes nothing.
use mathlib.Core.Path.{refl}
use mathlib.Core.List.{List}
use Prim.Native.Nat.{ℕ}
use native.Mathlib.Omega.{arith}
use lib.ListN.{get_or}
use Rattle.hedge.specs.Schema.{most_states}
use Rattle.lore.specs.Lore.{Known}
use Rattle.useful.specs.Marks.{RulesInRange}
use Rattle.shares.specs.Shares.{Shares}
use Rattle.walk.proofs.PlaceLaws.{LentParts, AtRule, going_start}
use Rattle.walk.proofs.VisitLaws.{left_start, right_start, right_end, left_end, rule_passed, walk_end}
use Rattle.walk.proofs.RoundLaws.{news_room, left_choosable, right_choosable, after_turn}
use Rattle.walk.proofs.walk_round.Invariants.{parts_of}
use Rattle.walk.proofs.walk_round.Goals as goal

lent : {lore rules shares : List ℕ} → Known most_states lore → RulesInRange rules → Shares rules shares → LentParts lore rules shares
lent l r s = record { is_lore = l; in_range = r; all_shares = s }

pub news-fresh-requires : goal.news-fresh-requires
news-fresh-requires c = news_room c.requires.proper_rows

pub loop-i-init : goal.loop-i-init
loop-i-init c =
    going_start (record { proper = c.requires.proper_rows; begins = c.requires.round_begins; fresh_is = c.news-fresh.ensures })

pub loop-i-preserved-then-marks-eq0 : goal.loop-i-preserved-then-marks-eq0
loop-i-preserved-then-marks-eq0 c =
    rule_passed c.loop-i.invariant (lent c.args.lore.now.known c.requires.rules_in_range c.requires.shares) c.if-marks-eq0.true

pub loop-j-init : goal.loop-j-init
loop-j-init c =
    let known = lent c.args.lore.now.known c.requires.rules_in_range c.requires.shares in
    let rule : AtRule c.args.rules.now c.args.round c.news-fresh.result c.loop-i.i (
    parts_of (get_or c.args.shares.now c.loop-i.i 0) c.slot-left.result c.slot-right.result c.lefts_of-lefts.result
    c.choices-rights.result c.new_from-new_left.result c.new_from-new_right.result) =
    record {
      is_rule = c.loop-i-test.true;
      sharing = c.requires.shares.each c.loop-i.i c.loop-i-test.true;
      marked = omega (arith, c.if-marks-eq0.false);
      left_is = c.slot-left.ensures;
      right_is = c.slot-right.ensures;
      lefts_is = rw (← c.renews.ensures, ← c.renews-in-loop-i.ensures) c.lefts_of-lefts.ensures;
      rights_is = c.choices-rights.ensures;
      new_left = c.new_from-new_left.ensures;
      new_right = c.new_from-new_right.ensures;
    } in
    (rule, left_start c.loop-i.invariant known rule refl refl _ c.left_from-j.ensures)

pub right_from-k-requires : goal.right_from-k-requires
right_from-k-requires c =
    left_choosable (lent c.args.lore.now.known c.requires.rules_in_range c.requires.shares) c.loop-j.invariant.0 c.loop-j.invariant.1
    c.loop-j-test.true

pub loop-k-init : goal.loop-k-init
loop-k-init c = (
  c.loop-j.invariant.0,
  right_start c.loop-j.invariant.1 (lent c.args.lore.now.known c.requires.rules_in_range c.requires.shares) c.loop-j.invariant.0
      refl _ c.right_from-k.ensures,
)

pub one_turn-requires : goal.one_turn-requires
one_turn-requires c =
    let known = lent c.args.lore.now.known c.requires.rules_in_range c.requires.shares in
    let (rule, going) = c.loop-k.invariant in
    let proper = going.sofar.grown.proper_rows in
    record {
      choosable = left_choosable known rule going c.loop-j-test.true;
      choosable_2 = right_choosable known rule going c.loop-k-test.true;
      table_long_in_bounds = proper.room;
      rows_le_most_images = proper.few;
    }

pub loop-k-preserved : goal.loop-k-preserved
loop-k-preserved c = (
  c.loop-k.invariant.0,
  after_turn (lent c.args.lore.now.known c.requires.rules_in_range c.requires.shares) c.loop-k.invariant.0 c.loop-k.invariant.1
      c.loop-j-test.true c.loop-k-test.true c.in-Some.ensures,
)

pub loop-j-preserved : goal.loop-j-preserved
loop-j-preserved c = (
  c.loop-j.invariant.0,
  right_end c.loop-k.invariant.1 (lent c.args.lore.now.known c.requires.rules_in_range c.requires.shares) c.loop-j.invariant.0
      c.loop-k-test.false,
)

pub loop-i-preserved : goal.loop-i-preserved
loop-i-preserved c =
    left_end c.loop-j.invariant.1 (lent c.args.lore.now.known c.requires.rules_in_range c.requires.shares) c.loop-j.invariant.0
    c.loop-j-test.false refl

pub returns-in_default : goal.returns-in_default
returns-in_default c =
    after_turn (lent c.args.lore.now.known c.requires.rules_in_range c.requires.shares) c.loop-k.invariant.0 c.loop-k.invariant.1
    c.loop-j-test.true c.loop-k-test.true c.in_default.ensures

pub returns-after-loop-i : goal.returns-after-loop-i
returns-after-loop-i c = walk_end c.loop-i.invariant (lent c.args.lore.now.known c.requires.rules_in_range c.requires.shares) c.loop-i-test.false
