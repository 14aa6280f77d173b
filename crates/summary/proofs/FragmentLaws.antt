-- The replies of reading a fragment, from what the code has: what reading left in the arrays is packed, a refusal's summary is all zeros;
-- and what was found with the lore and the names of a sound file is found under the file. Assumes nothing.
use mathlib.Core.Path.{◌≡◌, refl}
use mathlib.Core.List.{List}
use Prim.Native.Nat.{ℕ}
use native.Mathlib.Omega.{arith}
use lib.ListN.{replicate}
use borrow.Author.Rules.{rules}
use Rattle.std.specs.Prelude.{Result, Ok, Err}
use Rattle.hedge.specs.Schema.{most_states}
use Rattle.lore.specs.Lore.{IsLore}
use Rattle.pieces.specs.declared.Piece.{Piece}
use Rattle.pieces.specs.Pieces.{most_tags, pieces_long, piece_at, put_piece, lifted, pieces, Counted}
use Rattle.pieces.proofs.PieceLaws.{piece_same}
use Rattle.template.specs.Order.{IsSound, reading, faulty}
use Rattle.template.specs.declared.Shape.{Shape}
use Rattle.template.proofs.ShapeLaws.{read_is, shape_sound, names_are}
use Rattle.form.specs.Held.{summary_of, Holds}
use Rattle.form.specs.declared.Counts.{Counts}
use Rattle.form.specs.declared.Summary.{Summary}
use Rattle.form.proofs.TagLaws.{holds_none}
use Rattle.schema.specs.Schemas.{LoreOf}
use Rattle.schema.proofs.SchemaLaws.{file_lore, lore_carries}
use Rattle.reader.specs.Reads.{Reads, Found}
use Rattle.reader.specs.Feeds.{Progressed}
use Rattle.reader.specs.declared.Stop.{Stop}
use Rattle.reader.specs.declared.Stop.TheVariants.{NotATag, Mismatch, TooDeep}
use Rattle.summary.specs.declared.FragmentRefusal.{FragmentRefusal}
use Rattle.summary.specs.declared.FragmentRefusal.TheVariants.{BadFile}
use Rattle.summary.specs.Replies.{stopped, reply_of}
use Rattle.summary.specs.Fragments.{ReadUnder, FragmentSays, FragmentFinds}
use Rattle.summary.proofs.PackingLaws.{holds_packs}

-- ---- the empty word in the arrays

module _ (p : Piece) (values : List ℕ) (put : values ≡ put_piece (replicate pieces_long 0) 0 p) where
  pub empty_holds : Counted p → Holds (summary_of (record { ends = 0; starts = 0 }) (replicate most_tags 0) values)
  empty_holds c = rw put (holds_none p c)

  pub empty_first : piece_at values 0 ≡ p
  empty_first = rw put (piece_same (replicate pieces_long 0) 0 p refl (omega arith))

-- ---- what reading finds

module _ (known : ℕ) (lore bytes : List ℕ) where
  abbrev Finds : Found Piece → Type 0
  Finds = Reads known (pieces lore) most_tags bytes

  module _ (p : Result Counts Stop) (names values : List ℕ) (read : Progressed p names values Finds) where
    pub finds_summarised : (c : Counts) → p ≡ Ok c → FragmentFinds Finds (Ok (summary_of c names values))
    finds_summarised c d = let (k, r) = rw d at read in (_, _, r, holds_packs (summary_of c names values) k)

    finds : (e : Stop) → Progressed (Err e) names values Finds → FragmentFinds Finds (Err e)
    finds (NotATag i) r = r
    finds (Mismatch i) r = r
    finds (TooDeep i) r = r

    pub finds_stop : (e : Stop) → p ≡ Err e → FragmentFinds Finds (Err e)
    finds_stop e d = finds e (rw d at read)

pub ruleset finds_turns = (finds_summarised, finds_stop, rules)

-- ---- what a file's fragment is answered

pub says_bad : (f bytes : List ℕ) (p : ℕ) → reading f ≡ faulty p → FragmentSays f bytes (reply_of (Err (BadFile p)))
says_bad f bytes p e = (e, refl)

-- what was found, with a refusal as the reply's own
abbrev pub found_reply : Result Summary Stop → Result Summary FragmentRefusal
found_reply (Ok s) = Ok s
found_reply (Err e) = Err (stopped e)

answers_found : (f bytes : List ℕ) → IsSound f → (r : Result Summary Stop) → FragmentFinds (ReadUnder f bytes) r
    → FragmentSays f bytes (reply_of (found_reply r))
answers_found f bytes sound (Ok s) h = (sound, h)
answers_found f bytes sound (Err (NotATag p)) r = (sound, r, refl)
answers_found f bytes sound (Err (Mismatch p)) r = (sound, r, refl)
answers_found f bytes sound (Err (TooDeep p)) r = (sound, r, refl)

module _ (f : List ℕ) (shape : Shape) (sound : reading f ≡ Ok shape) (lore : List ℕ) (taught : LoreOf f lore) where
  pub taught_lore : IsLore most_states lore
  taught_lore = file_lore f lore (shape_sound f shape sound) taught

  pub says_found : (bytes : List ℕ) (r : Result Summary Stop) → FragmentFinds (Reads shape.names (pieces lore) most_tags bytes) r
      → FragmentSays f bytes (reply_of (found_reply r))
  says_found bytes r h =
      let found = lore_carries f lore (shape_sound f shape sound) taught
      (λ e g w. FragmentFinds (Reads shape.names (lifted e g w) most_tags bytes) r) h in
      answers_found f bytes (shape_sound f shape sound) r (rw (names_are f shape sound) at found)

pub ruleset fragment_turns = (read_is, rules)
