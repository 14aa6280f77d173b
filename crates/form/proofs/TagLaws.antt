-- One tag more on the arrays (specs/Steps.antt), case by case as the code meets them: a start or an end kept, or one too many; an end
-- that meets a start of its own name, or of another. What the arrays hold follows from HeldLaws, what the tag makes of it from the
-- equations of a step and of the limit in words. The counts and the pieces that a function is
-- told are variables, with equations. Assumes nothing.
use mathlib.Core.Path.{◌≡◌, refl, sym, ap, ap₂, ◌∙◌}
use mathlib.Core.Bool.{Bool, true, false, ◌&&◌}
use mathlib.Core.List.{List}
use Prim.Native.Nat.{ℕ, suc, ◌+◌, ◌-◌, ◌≤◌, ◌<◌}
use native.Mathlib.Omega.{arith}
use lib.Dec.{ltb}
use lib.ListN.{get_or, set, length-set, replicate, length-replicate}
use borrow.Author.Rules.{rules}
use Rattle.std.specs.Prelude.{Result, Ok, Err}
use Rattle.words.specs.Tags.{Tag, start, end}
use Rattle.words.specs.Reduced.{push, EndsFirst, tags}
use Rattle.words.specs.Reader.{reduced, fits, limit, then_value_within}
use Rattle.words.proofs.StepLaws.{step_push, step_same, step_other}
use Rattle.words.proofs.LimitLaws.{limit_in, limit_out, limit_differ}
use Rattle.pieces.specs.declared.Piece.{Piece}
use Rattle.pieces.specs.Pieces.{most_tags, pieces_long, zero_piece, piece_at, put_piece, pieces, Counted}
use Rattle.pieces.proofs.PieceLaws.{piece_same, put_length, put_counted, none_counted, counted_compose}
use Rattle.form.specs.Held.{tag_of, stack_of, tag_count, summary_of, form_of, last_of, Holds}
use Rattle.form.specs.Steps.{held, outcome, Stepped, after_tag}
use Rattle.form.specs.declared.Counts.{Counts}
use Rattle.form.specs.declared.Summary.{Summary}
use Rattle.form.specs.declared.Clash.{Clash}
use Rattle.form.specs.declared.Clash.TheVariants.{Mismatch, TooDeep}
use Rattle.form.proofs.HeldLaws.{tag_start, stack_last, stack_put_start, stack_put_end, stack_take}
use Rattle.form.proofs.HeldLaws.{unused_none, unused_put, unused_take, value_taken, tags_held, only_ends_held, ends_first_held}
use Rattle.form.proofs.TurnLaws.{stepped_held, stepped_differs, stepped_deep, one_start, one_end, meets_start, meets_none}

-- the arrays before any tag, and after a tag more or less

pub holds_none : (p : Piece) → Counted p
    → Holds (summary_of (record { ends = 0; starts = 0 }) (replicate most_tags 0) (put_piece (replicate pieces_long 0) 0 p))
holds_none p c =
    record {
      names_long = length-replicate {A = ℕ} most_tags 0;
      values_long = put_length (replicate pieces_long 0) 0 p ∙ length-replicate {A = ℕ} pieces_long 0;
      room = omega arith;
      unused = unused_none most_tags pieces_long p;
      counted = put_counted (replicate pieces_long 0) 0 p (length-replicate {A = ℕ} pieces_long 0) (omega arith) (none_counted pieces_long) c;
    }

pub holds_put : (s : Summary) (d : Counts) (m a : ℕ) (v : Piece) → m ≡ tag_count d → m ≡ suc (tag_count s.counts)
    → tag_count s.counts < most_tags → Holds s → Counted v
    → Holds (summary_of d (set s.names (tag_count s.counts) a) (put_piece s.values m v))
holds_put s d m a v p q l h c =
    let n = tag_count s.counts in
    record {
      names_long = length-set s.names n a ∙ h.names_long;
      values_long = put_length s.values m v ∙ h.values_long;
      room = omega arith;
      unused = rw (← p) (unused_put n m a v s.names s.values q h.unused);
      counted = put_counted s.values m v h.values_long (omega arith) h.counted c;
    }

holds_take : (s : Summary) (d : Counts) (m : ℕ) (v : Piece) → m ≡ tag_count d → tag_count s.counts ≡ suc m → Holds s → Counted v
    → Holds (summary_of d (set s.names m 0) (put_piece (put_piece s.values (tag_count s.counts) zero_piece) m v))
holds_take s d m v p q h c =
    let n = tag_count s.counts in
    let i = h.names_long in
    let l = h.room in
    record {
      names_long = length-set s.names m 0 ∙ i;
      values_long = put_length (put_piece s.values n zero_piece) m v ∙ put_length s.values n zero_piece ∙ h.values_long;
      room = omega arith;
      unused = rw (← p) (unused_take n m v s.names s.values q (omega arith) h.values_long l h.unused);
      counted =
          put_counted (put_piece s.values n zero_piece) m v (put_length s.values n zero_piece ∙ h.values_long) (omega arith)
          (put_counted s.values n zero_piece h.values_long l h.counted (omega arith)) c;
    }

module _ (lore : List ℕ) (s : Summary) where
  -- a tag that is left unmatched
  tag_put : (t : Tag) → EndsFirst (push (form_of s) (last_of s) t)
      → after_tag lore s t ≡ limit (pieces lore) most_tags (reduced (push (form_of s) (last_of s) t) (pieces lore).unit)
  unfolding after_tag
  tag_put t f = rw (step_push (pieces lore) (form_of s) (last_of s) t f)

  form_tags : tags (form_of s) ≡ tag_count s.counts
  form_tags = tags_held s.counts.ends (tag_count s.counts) s.names s.values

  -- the innermost start
  top_start : 0 < s.counts.starts → form_of s
      ≡ push (stack_of s.counts.ends s.names s.values (tag_count s.counts - 1)) (piece_at s.values (tag_count s.counts - 1))
      (start (get_or s.names (tag_count s.counts - 1) 0))
  top_start l =
      let n = tag_count s.counts in
      rw (
        stack_last s.counts.ends n (n - 1) s.names s.values (omega arith),
        tag_start s.counts.ends s.names (n - 1) (omega arith),
      )

  -- a start may stand behind all tags, an end behind ends

  behind_all : (a : ℕ) → EndsFirst (push (form_of s) (last_of s) (start a))
  behind_all a = ends_first_held s.counts.ends (tag_count s.counts) s.names s.values

  behind_ends : (a : ℕ) → s.counts.starts ≤ 0 → EndsFirst (push (form_of s) (last_of s) (end a))
  behind_ends a z = only_ends_held s.counts.ends (tag_count s.counts) s.names s.values (omega arith)

  module _ (names values : List ℕ) (name : ℕ) where
    -- one tag too many

    tag_deep : (t : Tag) → EndsFirst (push (form_of s) (last_of s) t) → most_tags ≤ tag_count s.counts
        → Stepped (Err TooDeep) names values (after_tag lore s t)
    unfolding tags
    tag_deep t f l =
        let form = push (form_of s) (last_of s) t in
        stepped_deep names values (after_tag lore s t)
        (tag_put t f ∙ limit_out (pieces lore) most_tags form (pieces lore).unit (omega (arith, form_tags)))

    pub stays_deep : (closes : Bool) → (closes && ltb 0 s.counts.starts) ≡ false → most_tags ≤ tag_count s.counts
        → Stepped (Err TooDeep) names values (after_tag lore s (tag_of closes name))
    stays_deep true t l = tag_deep (end name) (behind_ends name (meets_none s.counts.starts true refl t)) l
    stays_deep false t l = tag_deep (start name) (behind_all name) l

    -- a tag kept behind the others; v is the empty word's piece
    module _ (d : Counts) (v : Piece) (closes : Bool) (unit : v ≡ (pieces lore).unit) (h : Holds s) (l : tag_count s.counts < most_tags)
        (p : names ≡ set s.names (tag_count s.counts) name) (q : values ≡ put_piece s.values (tag_count s.counts + 1) v) where
      tag_kept : (t : Tag) → tag_count d ≡ tag_count s.counts + 1 → EndsFirst (push (form_of s) (last_of s) t)
          → stack_of d.ends (set s.names (tag_count s.counts) name) (put_piece s.values (tag_count s.counts + 1) v)
          (tag_count s.counts + 1) ≡ push (form_of s) (last_of s) t → Stepped (Ok d) names values (after_tag lore s t)
      unfolding tags
      tag_kept t more f is =
          let n = tag_count s.counts in
          let form = push (form_of s) (last_of s) t in
          rw (p, q)
          (stepped_held d (set s.names n name) (put_piece s.values (n + 1) v) (after_tag lore s t)
          (holds_put s d (n + 1) name v (sym more) (omega arith) l h (rw unit (omega arith)))
          (rw (more, tag_put t f, limit_in (pieces lore) most_tags form (pieces lore).unit (omega (arith, form_tags)))
          (ap₂ fits is (piece_same s.values (n + 1) v h.values_long (omega arith) ∙ unit))))

      pub start_kept : closes ≡ false → d ≡ record { ends = s.counts.ends; starts = s.counts.starts + 1 }
          → Stepped (Ok d) names values (after_tag lore s (tag_of closes name))
      start_kept f e =
          let n = tag_count s.counts in
          rw f
          (tag_kept (start name) (one_start d s.counts.ends s.counts.starts e) (behind_all name)
          (rw e
          (stack_put_start s.counts.ends n (n + 1) name v s.names s.values (omega arith) (omega arith)
          (omega (arith, h.names_long)))))

      -- where no start stands
      pub end_kept : closes ≡ true → s.counts.starts ≤ 0 → d ≡ record { ends = s.counts.ends + 1; starts = 0 }
          → Stepped (Ok d) names values (after_tag lore s (tag_of closes name))
      end_kept f z e =
          let n = tag_count s.counts in
          let one : s.counts.ends + 1 ≡ n + 1 = omega arith in
          rw f
          (tag_kept (end name) (one_end d s.counts.ends s.counts.starts z e) (behind_ends name z)
          (rw (e, one)
          (stack_put_end s.counts.ends n (n + 1) name v s.names s.values (omega arith) (omega arith)
          (omega (arith, h.names_long)))))

    -- an end tag where starts stand: it meets the innermost

    pub end_differs : (a : ℕ) → a ≡ get_or s.names (tag_count s.counts - 1) 0 → 0 < s.counts.starts → (a ≡ name → ⊥)
        → Stepped (Err (Mismatch a name)) names values (after_tag lore s (end name))
    unfolding after_tag
    end_differs a top l other =
        let n = tag_count s.counts in
        let S = stack_of s.counts.ends s.names s.values (n - 1) in
        stepped_differs a name names values (after_tag lore s (end name))
        (rw (top_start l, ← top, step_other (pieces lore) S (piece_at s.values (n - 1)) (last_of s) a name other)
        (limit_differ (pieces lore) most_tags a name))

    -- of its own name: the start goes, and one piece takes the place of the two beside it
    module _ (d : Counts) (before inner : Piece) (h : Holds s) (l : 0 < s.counts.starts)
        (m : get_or s.names (tag_count s.counts - 1) 0 ≡ name) (b : before ≡ piece_at s.values (tag_count s.counts - 1))
        (w : inner ≡ piece_at s.values (tag_count s.counts)) (p : names ≡ set s.names (tag_count s.counts - 1) 0)
        (e : d ≡ record { ends = s.counts.ends; starts = s.counts.starts - 1 }) where
      abbrev taken : Piece → List ℕ
      taken v = put_piece (put_piece s.values (tag_count s.counts) zero_piece) (tag_count s.counts - 1) v

      abbrev whole : Piece
      whole = (pieces lore).compose before ((pieces lore).wrap name inner)

      one_less : tag_count d ≡ tag_count s.counts - 1
      one_less = rw e (omega arith)

      end_taken : Stepped (Ok d) names (taken whole) (after_tag lore s (end name))
      unfolding after_tag
      end_taken =
          let n = tag_count s.counts in
          let S = stack_of s.counts.ends s.names s.values (n - 1) in
          let i = h.room in
          rw p
          (stepped_held d (set s.names (n - 1) 0) (taken whole) (after_tag lore s (end name))
          (holds_take s d (n - 1) whole (sym one_less) (omega arith) h (counted_compose lore before ((pieces lore).wrap name inner)))
          (rw (
            one_less,
            e,
            top_start l,
            m,
            step_same (pieces lore) S (piece_at s.values (n - 1)) (last_of s) name,
            ← b,
            ← w,
            limit_in (pieces lore) most_tags S whole (omega (arith, tags_held s.counts.ends (n - 1) s.names s.values)),
          )
          (ap₂ fits (stack_take s.counts.ends n (n - 1) 0 whole zero_piece s.names s.values (omega arith))
          (value_taken n (n - 1) whole zero_piece s.values h.values_long (omega arith)))))

      pub end_meets : (v : Piece) → v ≡ whole → values ≡ taken v → Stepped (Ok d) names values (after_tag lore s (end name))
      end_meets v r q = rw (q, r) end_taken

      -- and a balanced word behind it
      held_taken : (x : Piece) → held (summary_of d (set s.names (tag_count s.counts - 1) 0) (taken x))
          ≡ fits (stack_of s.counts.ends s.names s.values (tag_count s.counts - 1)) x
      held_taken x =
          let n = tag_count s.counts in
          let i = h.room in
          rw (one_less, e)
          (ap₂ fits (stack_take s.counts.ends n (n - 1) 0 x zero_piece s.names s.values (omega arith))
          (value_taken n (n - 1) x zero_piece s.values h.values_long (omega arith)))

      pub end_cancels : (v u : Piece) → u ≡ (pieces lore).compose whole v → values ≡ taken u
          → Stepped (Ok d) names values (then_value_within (pieces lore) (after_tag lore s (end name)) v)
      unfolding outcome then_value_within
      end_cancels v u r q =
          let n = tag_count s.counts in
          let i = h.room in
          let told = rw p at end_taken.says in
          rw (p, q, r)
          (stepped_held d (set s.names (n - 1) 0) (taken ((pieces lore).compose whole v)) _
          (holds_take s d (n - 1) ((pieces lore).compose whole v) (sym one_less) (omega arith) h (counted_compose lore whole v))
          (held_taken ((pieces lore).compose whole v)
          ∙ ap (λ o. then_value_within (pieces lore) o v) (sym (held_taken whole) ∙ told)))

    pub end_met : (closes : Bool) (r : Result Counts Clash) → closes ≡ true → Stepped r names values (after_tag lore s (end name))
        → Stepped r names values (after_tag lore s (tag_of closes name))
    end_met closes r f h = rw f h

pub ruleset tag_laws = (start_kept, end_kept, stays_deep, end_differs, end_meets, end_met, meets_start, meets_none, rules)
