-- The rules' worked cases hold (specs/Cases.antt). Each case is run: the numbers that it states, and those that the computed replies
-- (proofs/Replies.antt) give, are laid out as one line each; that all lines are the same is computed in one go; and a case whose line comes
-- out as stated holds, since the computed replies meet their promises. Assumes nothing.
use mathlib.Core.Path.{◌≡◌, refl, subst, sym}
use mathlib.Core.List.Memᴰ
use mathlib.Core.List.{List, [], ◌∷◌, map, Memᴰ}
use mathlib.Core.Logic.{◌⊎◌, inl, inr}
use Prim.Native.Nat.{ℕ, suc, ◌*◌}
use native.Mathlib.Decide.{ℕ_discrete, dec_lt}
use lib.IntN.{ℤ, pos}
use lib.ListN.{take}
use Rattle.words.specs.Reduced.{tags, starts, ends, net}
use Rattle.words.specs.Outermost.{at_most_several}
use Rattle.words.specs.Reader.{meet, step, then_tag, then_value, join, fit, limit}
use Rattle.numbers.specs.Fields.{field}
use Rattle.numbers.specs.Bits.{bit}
use Rattle.hedge.specs.Relation.{has}
use Rattle.numbers.specs.Bits.{any, number as digits}
use Rattle.hedge.specs.Operations.{same, linked, ended, one_pair, fires, wrapped, lowest, relation}
use Rattle.hedge.specs.Operations.{unit, compose, wrap, accepts}
use Rattle.pieces.specs.Pieces.{piece_long, piece_at, put_piece, accepted}
use Rattle.entries.specs.Tests.{first_fault}
use Rattle.entries.specs.Entries.{symbol_tests, field_tests, width, precedes, ascends, entry_tests, body_tests}
use Rattle.template.specs.Layout.{half_at, part_of}
use Rattle.template.specs.Order.{IsSound, head_tests, contents_tests, bodies, tests}
use Rattle.form.specs.Held.{tag_at, stack_of}
use Rattle.form.specs.Held.{tag_count, form_of}
use Rattle.summary.specs.Fragments.{FragmentSays}
use Rattle.summary.specs.Joins.{SummaryUnder, JoinSays}
use Rattle.summary.specs.Answers.{fragment_answer, join_answer, join_number}
use Rattle.form.specs.declared.Summary.{Summary}
use Rattle.summary.specs.Replies.{JoinReply}
use Rattle.std.specs.Prelude.{Ok}
use Rattle.summary.proofs.MeaningLaws.{fragment_under}
use Rattle.summary.proofs.UniqueLaws.{fragment_unique, join_unique, depth_unique}
use Rattle.summary.specs.Replies.{FragmentReply}
use Rattle.page.specs.Pages.{answer, number}
use Rattle.page.proofs.UniqueLaws.{page_unique}
use Rattle.demands.specs.Cases.{K, Case, page, fragment, depth, joined, refused, CaseHolds, cases, AllHold}
use Rattle.schema.proofs.SchemaLaws.{ended_of}
use Rattle.demands.proofs.SecondLaws.{answer_summarised}
use Rattle.demands.proofs.Findings.{class_by, class_of, find_on, find_by, find_from, find}
use Rattle.demands.proofs.Packings.{put, pack_of}
use Rattle.demands.proofs.Replies.{fragment_of, page_of, join_of, fragment_says, page_says, join_says}

-- ---- the lines

-- answers and numbers, names, pieces, net depth
data Line : Type 0 where
  line : List ℕ → List ℕ → List ℕ → ℤ → Line

abbrev shown : List ℕ → Summary → Line
shown answers s = line answers (take (tag_count s.counts) s.names) (take (suc (tag_count s.counts) * piece_long) s.values) (pos 0)

-- as the case states it; a fragment's answer is 0
abbrev stated : Case → Line
stated (page bytes a n) = line (a ∷ n ∷ []) [] [] (pos 0)
stated (fragment bytes e s names pieces) = line (0 ∷ e ∷ s ∷ []) names pieces (pos 0)
stated (depth bytes z) = line (0 ∷ []) [] [] z
stated (joined u v e s names pieces) = line (0 ∷ 0 ∷ 0 ∷ e ∷ s ∷ []) names pieces (pos 0)
stated (refused u v a n) = line (0 ∷ 0 ∷ a ∷ n ∷ []) [] [] (pos 0)

-- as it comes out
answer_of : List ℕ → ℕ
answer_of bytes = fragment_answer (fragment_of K bytes).answer

joined_of : List ℕ → List ℕ → JoinReply
joined_of u v = join_of K (fragment_of K u).summary (fragment_of K v).summary

abbrev run : Case → Line
run (page bytes a n) = line (answer (page_of K bytes) ∷ number (page_of K bytes) ∷ []) [] [] (pos 0)
run (fragment bytes e s names pieces) =
    let m = (fragment_of K bytes).summary in shown (answer_of bytes ∷ m.counts.ends ∷ m.counts.starts ∷ []) m
run (depth bytes z) = line (answer_of bytes ∷ []) [] [] (net (form_of (fragment_of K bytes).summary))
run (joined u v e s names pieces) =
    let j = joined_of u v in
    shown (answer_of u ∷ answer_of v ∷ join_answer j.answer ∷ j.summary.counts.ends ∷ j.summary.counts.starts ∷ []) j.summary
run (refused u v a n) =
    let j = joined_of u v in line (answer_of u ∷ answer_of v ∷ join_answer j.answer ∷ join_number j.answer ∷ []) [] [] (pos 0)

-- ---- all are run

sound : IsSound K
unfolding K tests head_tests contents_tests bodies body_tests entry_tests field_tests symbol_tests first_fault ascends precedes width half_at
sound = refl

table : map run cases ≡ map stated cases
unfolding cases K answer_of joined_of fragment_of page_of join_of pack_of put find find_from find_by find_on class_of class_by limit fit step meet
    join then_tag then_value tags starts ends net stack_of tag_at piece_at put_piece ended_of half_at part_of field bit has any same linked ended
    one_pair fires wrapped digits lowest relation unit compose wrap accepts accepted at_most_several ℕ_discrete dec_lt
table = refl

-- ---- a case that comes out as stated holds

summary-under : (bytes : List ℕ) → answer_of bytes ≡ 0 → SummaryUnder K (fragment_of K bytes).summary
unfolding answer_of
summary-under bytes e =
    fragment_under K bytes (fragment_of K bytes) (fragment_says K sound bytes) (answer_summarised (fragment_of K bytes).answer e)

-- every reply that is allowed is the computed one
fragment_is : (bytes : List ℕ) (r : FragmentReply) → FragmentSays K bytes r → r ≡ fragment_of K bytes
fragment_is bytes r says = fragment_unique K bytes r (fragment_of K bytes) says (fragment_says K sound bytes)

join_is : (u v : List ℕ) → answer_of u ≡ 0 → answer_of v ≡ 0 → (r s : FragmentReply) (j : JoinReply) → FragmentSays K u r
    → FragmentSays K v s → JoinSays K r.summary s.summary j → j ≡ joined_of u v
unfolding joined_of
join_is u v e d r s j p q says =
    let l = (fragment_of K u).summary in
    let m = (fragment_of K v).summary in
    join_unique K l m j (join_of K l m) (rw (fragment_is u r p, fragment_is v s q) at says)
    (join_says K sound l m (summary-under u e) (summary-under v d))

run_holds : (c : Case) → run c ≡ stated c → CaseHolds c
unfolding answer_of
run_holds (page bytes _ _) e = λ r says. rw (page_unique K bytes r (page_of K bytes) says (page_says K sound bytes)) (cc e, cc e)
run_holds (fragment bytes _ _ _ _) e = λ r says. rw (fragment_is bytes r says) (cc e, (cc e, cc e, cc e, cc e))
run_holds (depth bytes _) e = λ r d says deep.
    let m = (fragment_of K bytes).summary in
    let net-is : d ≡ Ok (net (form_of m)) =
    depth_unique K m d (Ok (net (form_of m))) (rw (fragment_is bytes r says) at deep) (sound, summary-under bytes (cc e), refl) in
    rw (fragment_is bytes r says, net-is) (cc e, refl, cc e)
run_holds (joined u v _ _ _ _) e = λ r s j p q says.
    rw (join_is u v (cc e) (cc e) r s j p q says) (cc e, (cc e, cc e, cc e, cc e))
run_holds (refused u v _ _) e = λ r s j p q says. rw (join_is u v (cc e) (cc e) r s j p q says) (cc e, cc e)

-- ---- every member of the table

map_same : {A B : Type 0} (f g : A → B) (xs : List A) → map f xs ≡ map g xs → (x : A) → Memᴰ x xs → f x ≡ g x
map_same f g [] e x m = absurd (Memᴰ.not-nil m)
map_same f g (y ∷ ys) e x m = from (Memᴰ.cases_cons m) (λ m. map_same f g ys (cc e) x m)
  where
    from : (x ≡ y) ⊎ Memᴰ x ys → (Memᴰ x ys → f x ≡ g x) → f x ≡ g x
    from (inl p) behind = subst (λ x. f x ≡ g x) (sym p) (cc e)
    from (inr m) behind = behind m

pub all_hold : AllHold
all_hold c m = run_holds c (map_same run stated cases table c m)
