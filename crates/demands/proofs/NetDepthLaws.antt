-- Net depth (specs/Second.antt). A net depth that is given is starts minus ends of at most 16 tags (summary/proofs/NetLaws.antt), so it is
-- from -16 to 16. Of the summary of a word it is the word's start tags minus its end tags: the form has as many more starts than ends as
-- the word has (proofs/NestLaws.antt), and the difference of two counts is that of any two counts as far apart. Where two summaries are
-- joined all three are summaries under a sound file, so each depth is given, and the form's net depths add up. Assumes nothing.
use Rattle.std.specs.Prelude.{Ok, Err}
use mathlib.Core.Path.{◌≡◌, refl, sym, ap, ap₂, ◌∙◌, subst}
use mathlib.Core.List.{List}
use mathlib.Core.Logic.{◌⊎◌, inl, inr}
use Prim.Native.Nat.{ℕ, suc, ◌+◌, ◌-◌, ◌≤◌, ◌<◌}
use native.Mathlib.Decide.{dec_lt}
use native.Mathlib.Omega.{arith}
use lib.IntN.{ℤ, pos, negsuc, neg_ℤ, ◌+ℤ◌, ◌-ℤ◌}
use Rattle.words.specs.Tags.{Tag}
use Rattle.words.specs.Reduced.{starts, ends, net}
use Rattle.pieces.specs.Pieces.{most_tags}
use Rattle.template.specs.Order.{IsSound}
use Rattle.template.proofs.ShapeLaws.{sound_not_bad}
use Rattle.schema.specs.Schemas.{binoid_of}
use Rattle.form.specs.Held.{form_of}
use Rattle.form.specs.declared.Summary.{Summary}
use Rattle.summary.specs.Replies.{JoinReply}
use Rattle.summary.specs.Replies.{DepthReply}
use Rattle.summary.specs.declared.DepthRefusal.TheVariants as depth
use Rattle.summary.specs.Words.{SummaryOf}
use Rattle.summary.specs.Joins.{SummaryUnder, BothSummaries, JoinAnswers, JoinSays, DepthSays}
use Rattle.summary.specs.Answers.{join_answer, depth_answer, net_depth}
use Rattle.summary.proofs.SignedLaws.{difference_up, difference_down}
use Rattle.summary.proofs.NetLaws.{depth_few, depth_counts, depth_most, depth_least, depth_none, net_joined}
use Rattle.summary.proofs.MeaningLaws.{joined_under}
use Rattle.demands.specs.Second.{opened, closed, Depth}
use Rattle.demands.proofs.NestLaws.{reduced_counts}
use Rattle.demands.proofs.SecondLaws.{answer_join}

-- ---- the difference of two counts

-- of two others that are as far apart
difference_same : (a b c d : ℕ) → c + b ≡ d + a → pos a -ℤ pos b ≡ pos c -ℤ pos d
difference_same a b c d apart = from (dec_lt a b)
  where
    from : Dec (a < b) → pos a -ℤ pos b ≡ pos c -ℤ pos d
    from (yes l) =
        let e : b - suc a ≡ d - suc c = omega arith in
        difference_down a b l ∙ ap negsuc e ∙ sym (difference_down c d (omega arith))
    from (no l) =
        let e : a - b ≡ c - d = omega arith in
        difference_up a b (omega arith) ∙ ap pos e ∙ sym (difference_up c d (omega arith))

-- it is no further from 0 than n
abbrev Near : ℕ → ℤ → Type 0
Near n z = (k : ℕ) × (k ≤ n) × ((z ≡ pos k) ⊎ (z ≡ neg_ℤ (pos k)))

difference_near : (n a b : ℕ) → b + a ≤ n → Near n (pos a -ℤ pos b)
difference_near n a b few = from (dec_lt a b)
  where
    from : Dec (a < b) → Near n (pos a -ℤ pos b)
    from (yes l) = (suc (b - suc a), omega arith, inr (difference_down a b l))
    from (no l) = (a - b, omega arith, inl (difference_up a b (omega arith)))

-- ---- of one summary

module _ (f : List ℕ) (s : Summary) where
  net_of_word : (w : List Tag) → SummaryOf f w s → net (form_of s) ≡ pos (opened w) -ℤ pos (closed w)
  unfolding net
  net_of_word w of_word =
      difference_same (starts (form_of s)) (ends (form_of s)) (opened w) (closed w) (reduced_counts (binoid_of f) of_word.reduces)

  -- a refusal's depth is 0
  refused_depth : (a : ℕ) → 1 ≤ a → Depth f s a (pos 0)
  refused_depth a refusal = record {
    difference = λ e. absurd (omega (arith, refusal, e));
    within = (0, omega arith, inl refl);
    most = λ e. absurd (omega (arith, refusal, e));
    least = λ e. absurd (omega (arith, refusal, e));
    none = λ e. absurd (omega (arith, refusal, e));
    of_word = λ e. absurd (omega (arith, refusal, e));
  }

  pub depth_is : (r : DepthReply) → DepthSays f s r → Depth f s (depth_answer r) (net_depth r)
  depth_is (Ok z) says = record {
    difference = λ e. depth_counts f s z says;
    within =
        subst (Near most_tags) (sym (depth_counts f s z says))
        (difference_near most_tags s.counts.starts s.counts.ends (depth_few f s z says));
    most = λ e. depth_most f s z says;
    least = λ e. depth_least f s z says;
    none = λ e. depth_none f s z says;
    of_word = λ e w of_word. says.2 ∙ net_of_word w of_word;
  }
  depth_is (Err (depth.BadFile p)) says = refused_depth 7 (omega arith)
  depth_is (Err depth.NoSummary) says = refused_depth 15 (omega arith)

  -- of a summary under a sound file it is the form's
  depth_given : IsSound f → SummaryUnder f s → (r : DepthReply) → DepthSays f s r → net_depth r ≡ net (form_of s)
  depth_given sound under (Ok z) says = says.2
  depth_given sound under (Err (depth.BadFile p)) bad = absurd (sound_not_bad f p sound bad)
  depth_given sound under (Err depth.NoSummary) (_, none) = absurd (none under)

-- ---- of a join

pub depths_add : (f : List ℕ) (left right : Summary) (j : JoinReply) (d e g : DepthReply) → JoinSays f left right j
    → join_answer j.answer ≡ 0 → DepthSays f left d → DepthSays f right e → DepthSays f j.summary g
    → net_depth g ≡ net_depth d +ℤ net_depth e
depths_add f left right j d e g says zero l r whole =
    let joined = answer_join j.answer zero in
    let both : BothSummaries f left right = (subst (λ a. JoinAnswers f left right a j.summary) joined says).0 in
    let (sound, left-under, right-under) = both in
    depth_given f j.summary sound (joined_under f left right j says joined) g whole
    ∙ net_joined f left right j says joined
    ∙ sym (ap₂ ◌+ℤ◌ (depth_given f left sound left-under d l) (depth_given f right sound right-under e r))
