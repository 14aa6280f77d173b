-- The replies to a page, a fragment and a join under a sound file as computations, and that each meets its promise: what reading finds is
-- found (proofs/Findings.antt), a form is packed (proofs/Packings.antt), and a page's two tests are made with the schema itself
-- (schema/proofs/SchemaLaws.antt). Assumes nothing.
use Rattle.std.specs.Prelude.{Ok, Err}
use mathlib.Core.Path.{◌≡◌, refl, subst}
use mathlib.Core.List.{List}
use Prim.Native.Nat.{ℕ, ◌≤◌}
use Rattle.words.specs.Reduced.{tags}
use Rattle.words.specs.Reader.{Limited, fits, differs, too_deep, limit}
use Rattle.words.proofs.ReducedLaws.{reduced_ends_first, reduced_good}
use Rattle.words.proofs.JoinLaws.{join_ends_first, join_good}
use Rattle.words.proofs.LimitLaws.{Answers, limit_iff}
use Rattle.pieces.specs.declared.Piece.{Piece}
use Rattle.pieces.specs.Pieces.{most_tags}
use Rattle.template.specs.Layout.{name_count, states}
use Rattle.template.specs.Order.{IsSound}
use Rattle.form.proofs.HeldLaws.{ends_first_held}
use Rattle.reader.specs.Reads.{Found, whole, refused, no_tag, mismatch, too_many}
use Rattle.reader.proofs.FormLaws.{form_unique}
use Rattle.reader.proofs.ReadsLaws.{reads_finding, readable_whole}
use Rattle.form.specs.declared.Summary.{Summary}
use Rattle.form.specs.Held.{tag_count, form_of, last_of}
use Rattle.summary.specs.declared.FragmentRefusal.TheVariants as fragment
use Rattle.summary.specs.Replies.{FragmentReply, JoinReply}
use Rattle.summary.specs.declared.JoinRefusal.TheVariants as joined
use Rattle.summary.specs.Packing.{zeros}
use Rattle.schema.specs.Schemas.{binoid_of}
use Rattle.summary.specs.Fragments.{ReadUnder, FragmentSays}
use Rattle.summary.specs.Joins.{SummaryUnder, outcome_of, JoinSays}
use Rattle.summary.proofs.PlaceLaws.{summary_good}
use Rattle.schema.proofs.SchemaLaws.{laws_of, ended_of, ended_means}
use Rattle.page.specs.Pages.{PageReply, PageSays, tested}
use Rattle.page.specs.declared.PageRefusal.TheVariants as page
use Rattle.page.proofs.PageLaws.{end_page}
use Rattle.demands.proofs.Findings.{find, find_reads}
use Rattle.demands.proofs.Packings.{pack_of, pack_packs}

-- ---- from what was found

abbrev pub fragment_reply : Found Piece → FragmentReply
fragment_reply (whole t c) = record { answer = Ok tt; summary = pack_of t c }
fragment_reply (refused no_tag i) = record { answer = Err (fragment.NotATag i); summary = zeros }
fragment_reply (refused mismatch i) = record { answer = Err (fragment.Mismatch i); summary = zeros }
fragment_reply (refused too_many i) = record { answer = Err (fragment.TooDeep i); summary = zeros }

abbrev pub page_reply : List ℕ → Found Piece → PageReply
page_reply f (whole t c) = tested (ended_of f t c)
page_reply f (refused no_tag i) = Err (page.NotATag i)
page_reply f (refused mismatch i) = Err (page.Mismatch i)
page_reply f (refused too_many i) = Err (page.TooDeep i)

abbrev pub join_reply : Limited Piece → JoinReply
join_reply (fits t c) = record { answer = Ok tt; summary = pack_of t c }
join_reply (differs a b) = record { answer = Err joined.Mismatch; summary = zeros }
join_reply too_deep = record { answer = Err joined.TooDeep; summary = zeros }

-- ---- the replies under a file

module _ (f : List ℕ) where
  unfoldable pub fragment_of : List ℕ → FragmentReply
  fragment_of bytes = fragment_reply (find (name_count f) (binoid_of f) most_tags bytes)

  unfoldable pub page_of : List ℕ → PageReply
  page_of bytes = page_reply f (find (name_count f) (binoid_of f) most_tags bytes)

  unfoldable pub join_of : Summary → Summary → JoinReply
  join_of left right = join_reply (limit (binoid_of f) most_tags (outcome_of f left right))

  -- ---- each meets its promise

  module _ (sound : IsSound f) where
    found_says : (bytes : List ℕ) (found : Found Piece) → ReadUnder f bytes found → FragmentSays f bytes (fragment_reply found)
    found_says bytes (whole t c) read =
        let (all, formed) = reads_finding (name_count f) (binoid_of f) most_tags read in
        let readable = readable_whole (name_count f) (binoid_of f) most_tags all in
        let same : readable.tags_left ≡ t = (form_unique (name_count f) (binoid_of f) most_tags (laws_of f sound) readable.form formed).0 in
        let few : tags t ≤ most_tags = subst (λ t. tags t ≤ most_tags) same readable.few in
        let (g, h) = reduced_good (binoid_of f) (laws_of f sound) formed.reduced in
        (sound, (t, c, read, pack_packs (states f) t c (reduced_ends_first (binoid_of f) formed.reduced) few g h))
    found_says bytes (refused no_tag i) read = (sound, read, refl)
    found_says bytes (refused mismatch i) read = (sound, read, refl)
    found_says bytes (refused too_many i) read = (sound, read, refl)

    pub fragment_says : (bytes : List ℕ) → FragmentSays f bytes (fragment_of bytes)
    unfolding fragment_of
    fragment_says bytes =
        found_says bytes (find (name_count f) (binoid_of f) most_tags bytes) (find_reads (name_count f) (binoid_of f) most_tags (laws_of f sound) bytes)

    found_page : (bytes : List ℕ) (found : Found Piece) → ReadUnder f bytes found → PageSays f bytes (page_reply f found)
    found_page bytes (whole t c) read =
        let (all, formed) = reads_finding (name_count f) (binoid_of f) most_tags read in
        let w = formed.word in
        end_page f bytes w (ended_of f t c) sound all formed.spelled (ended_means f sound w t c formed.reduced)
    found_page bytes (refused no_tag i) read = (sound, read)
    found_page bytes (refused mismatch i) read = (sound, read)
    found_page bytes (refused too_many i) read = (sound, read)

    pub page_says : (bytes : List ℕ) → PageSays f bytes (page_of bytes)
    unfolding page_of
    page_says bytes =
        found_page bytes (find (name_count f) (binoid_of f) most_tags bytes) (find_reads (name_count f) (binoid_of f) most_tags (laws_of f sound) bytes)

    module _ (left right : Summary) (l : SummaryUnder f left) (r : SummaryUnder f right) where
      limited_says : (o : Limited Piece) → Answers most_tags (outcome_of f left right) o → JoinSays f left right (join_reply o)
      limited_says (fits t c) (e, few) =
          let first = ends_first_held left.counts.ends (tag_count left.counts) left.names left.values in
          let (gl, hl) = summary_good (name_count f) (states f) left l in
          let (gr, hr) = summary_good (name_count f) (states f) right r in
          let (g, h) = join_good (binoid_of f) (laws_of f sound) (form_of left) (form_of right) t (last_of left) (last_of right) c gl hl gr hr e in (
            (sound, l, r),
            (
              t,
              c,
              e,
              few,
              pack_packs (states f) t c (join_ends_first (binoid_of f) (form_of left) (form_of right) t (last_of left) (last_of right) c first e) few g
                  h,
            ),
          )
      limited_says (differs a b) e = ((sound, l, r), (a, b, e), refl)
      limited_says too_deep h = ((sound, l, r), h, refl)

      pub join_says : JoinSays f left right (join_of left right)
      unfolding join_of
      join_says =
          let o = limit (binoid_of f) most_tags (outcome_of f left right) in
          limited_says o ((limit_iff (binoid_of f) most_tags (outcome_of f left right) o).0 refl)
