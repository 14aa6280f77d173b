-- Splitting (specs/Long.antt) from its promise. Each answer is given exactly where the reply that it names is promised (NumberLaws,
-- ReplyNumbers). The written file stands in the output's first bytes. It has the strings of the long rules (long's `shortened_strings`) and
-- their schema, list by list, so what demand 3 says of its pages (ThirdLaws) is said of theirs. Assumes nothing.
use Rattle.std.specs.Prelude.{Ok, Err}
use mathlib.Core.Path.{◌≡◌, refl, sym, ap, subst}
use mathlib.Core.List.{List, ◌++◌}
use mathlib.Core.Logic.{◌↔◌, ◌⊎◌, ⊎_elim}
use Prim.Native.Nat.{ℕ, ◌≤◌, ◌<◌}
use native.Mathlib.Omega.{arith}
use lib.ListN.{length, take, drop, length-append, length-drop}
use lib.Seq.{take-append_seam, drop-append_seam}
use Rattle.words.specs.Tags.{Tag}
use Rattle.hedge.specs.Schema.{Schema, schema_from, Valid}
use Rattle.template.specs.Layout.{longest_file, name_count, nonterminals}
use Rattle.template.specs.Order.{SoundOf, reading_of}
use Rattle.template.specs.Order.{faulty}
use Rattle.template.proofs.SoundLaws.{sound_file, sound_file_of, sound_length}
use Rattle.schema.specs.Schemas.{schema_of}
use Rattle.reader.specs.Reads.{Spelled}
use Rattle.rounds.specs.Checks.{CheckSays}
use Rattle.rounds.specs.Answers.{answer as check_answer}
use Rattle.rounds.specs.Replies.{CheckReply}
use Rattle.long.specs.Rules.{long_symbols, PartsFit}
use Rattle.long.specs.Splits.{long_rules, Shortens, SplitSays, answer, number}
use Rattle.long.specs.Splits.{SplitReply}
use Rattle.long.specs.declared.SplitRefusal.TheVariants as split
use Rattle.long.proofs.SameLaws.{shortened_strings}
use Rattle.demands.specs.Third.{Produces, ReadAsValid}
use Rattle.demands.specs.Long.{SplitOrder, LongProduces, long_schema, SpeaksFor, SplitWritten}
use Rattle.demands.proofs.Sides.{in_words}
use Rattle.demands.proofs.NumberLaws.{placed, bare, numberless, first_exactly, first_place}
use Rattle.demands.proofs.ReplyNumbers.{split_replies, split_numbered}
use Rattle.demands.proofs.FirstLaws.{check_order}
use Rattle.demands.proofs.ThirdLaws.{checked}

-- ---- the output

-- a file F over its first bytes
module _ (F out out' : List ℕ) (n : ℕ) (e : n ≡ length F) (room : n ≤ length out) (made : out' ≡ F ++ drop n out) where
  front_is : take n out' ≡ F
  front_is = rw (made, e) (take-append_seam F (drop (length F) out))

  behind_is : drop n out' ≡ drop n out
  behind_is = rw (made, e) (drop-append_seam F (drop (length F) out))

  whole_is : length out' ≡ length out
  whole_is = rw (made, length-append F (drop n out), length-drop n out) (omega arith)

module _ (f out out' : List ℕ) where
  unchanged : (r : SplitReply) → SplitSays f out r out' → 1 ≤ answer r → out' ≡ out
  unchanged (Ok n) says h = absurd (omega (arith, h))
  unchanged (Err (split.BadFile p)) (_, e) h = e
  unchanged (Err split.TooMany) (_, _, e) h = e
  unchanged (Err split.Short) (_, _, _, e) h = e

  behind_same : (r : SplitReply) → SplitSays f out r out' → answer r ≡ 0 → drop (number r) out' ≡ drop (number r) out
  behind_same (Ok n) (_, _, (F, _, e, room, made)) h = behind_is F out out' n e room made
  behind_same (Err (split.BadFile p)) says h = absurd (omega (arith, h))
  behind_same (Err split.TooMany) says h = absurd (omega (arith, h))
  behind_same (Err split.Short) says h = absurd (omega (arith, h))

  length_same : (r : SplitReply) → SplitSays f out r out' → length out' ≡ length out
  length_same (Ok n) (_, _, (F, _, e, room, made)) = whole_is F out out' n e room made
  length_same (Err (split.BadFile p)) says = ap length (unchanged (Err (split.BadFile p)) says (omega arith))
  length_same (Err split.TooMany) says = ap length (unchanged (Err split.TooMany) says (omega arith))
  length_same (Err split.Short) says = ap length (unchanged (Err split.Short) says (omega arith))

-- ---- the answers

module _ (f out out' : List ℕ) (r : SplitReply) (says : SplitSays f out r out') where
  split_bad : (p : ℕ) → ((answer r ≡ 7) × (number r ≡ p)) ↔ (reading_of long_symbols f ≡ faulty p)
  split_bad p =
      in_words (placed (split_replies f out) r (out', says) 7 p refl refl) (λ (u, (bad, e)). bad) (λ bad. (out, (bad, refl)))

  split_short : (answer r ≡ 17) ↔ (SoundOf long_symbols f × PartsFit (nonterminals f) (long_rules f) × ((F : List ℕ) × Shortens f F × (length out < length F)))
  split_short =
      in_words (bare (split_replies f out) r (out', says) 17 refl (λ n. refl))
      (λ (u, (sound, fits, short, e)). (sound, fits, short)) (λ (sound, fits, short). (out, (sound, fits, short, refl)))

  -- the written file is sound, so no longer than the longest
  split_room : longest_file ≤ length out → answer r ≡ 17 → ⊥
  split_room room e =
      let (_, _, (F, s, short)) = split_short.0 e in omega (arith, room, short, sound_length F (sound_file F s.sound))

  pub split_order : SplitOrder f out (answer r) (number r) out'
  split_order =
      let all = split_replies f out in
      record {
        numbered = split_numbered r;
        bad_file = first_exactly long_symbols f (answer r) (number r) split_bad;
        place = first_place long_symbols f (answer r) (number r) split_bad;
        too_many =
            in_words (bare all r (out', says) 16 refl (λ n. refl))
            (λ (u, (sound, none, e)). (sound, none)) (λ (sound, none). (out, (sound, none, refl)));
        short = split_short;
        written = λ k.
            in_words (placed all r (out', says) 0 k refl refl)
            (λ (u, (sound, fits, (F, s, e, room, made))). (sound, fits, (F, s, e, room)))
            (λ (sound, fits, (F, s, e, room)). (F ++ drop k out, (sound, fits, (F, s, e, room, refl))));
        room_suffices = split_room;
        no_number = ⊎_elim (numberless all r (out', says) 16 (λ n. refl)) (numberless all r (out', says) 17 (λ n. refl));
        refused_unchanged = unchanged f out out' r says;
        rest_unchanged = behind_same f out out' r says;
        same_length = length_same f out out' r says;
      }

-- ---- what the written file is

module _ (f F : List ℕ) (sound : SoundOf long_symbols f) (s : Shortens f F) where
  schema_is : schema_of F ≡ long_schema f
  schema_is = λ i. schema_from (s.states_same i) (s.schema_same i) (s.endings_same i)

  valid_same : (w : List Tag) → Valid (long_schema f) w ↔ Valid (schema_of F) w
  valid_same w = (
    subst (λ (S : Schema). Valid S w) (sym schema_is),
    subst (λ (S : Schema). Valid S w) schema_is,
  )

  pages_same : (w : List Tag) → LongProduces f w ↔ Produces F w
  pages_same w = shortened_strings f F sound s 0 (sound_file_of long_symbols f sound).some_nonterminal w

  module _ (t t' : List ℕ) (budget : ℕ) (r : CheckReply) (says : CheckSays F t budget r t') where
    speaks_passed : check_answer r ≡ 0 → (w : List Tag) → LongProduces f w
        → Valid (long_schema f) w × ((bytes : List ℕ) × Spelled (name_count f) bytes w) × ReadAsValid F w
    speaks_passed e w page =
        let (valid, (bytes, spelled), read) = (checked F t t' budget r says).pass_means e w ((pages_same w).0 page) in
        ((valid_same w).1 valid, (bytes, subst (λ n. Spelled n bytes w) s.names_same spelled), read)

    speaks_broken : (check_answer r ≡ 1) ⊎ (check_answer r ≡ 2)
        → (w : List Tag) × LongProduces f w × (Valid (long_schema f) w → ⊥)
    speaks_broken e =
        let (w, page, invalid) = (checked F t t' budget r says).broken_means e in
        (w, (pages_same w).1 page, λ valid. invalid ((valid_same w).0 valid))

    speaks_none : check_answer r ≡ 6 → (w : List Tag) → LongProduces f w → ⊥
    speaks_none e w page =
        let (n, tree) = (pages_same w).0 page in
        ((check_order F t t' budget r says).then_page.0 e).2 (w, n, tree)

  speaks : SpeaksFor f F
  speaks = record { passed = speaks_passed; broken = speaks_broken; no_page = speaks_none }

  -- the first bytes of an output are such a file
  written_is : (n : ℕ) (out' : List ℕ) → take n out' ≡ F → n ≡ length F → SplitWritten f n out'
  written_is n out' is e =
      record {
        bytes = rw is (sym e);
        shortens = rw is s;
        same_strings = rw is (shortened_strings f F sound s);
        same_valid = rw is valid_same;
        speaks_for = rw is speaks;
      }

pub split_written : (f out out' : List ℕ) (r : SplitReply) → SplitSays f out r out' → answer r ≡ 0 → SplitWritten f (number r) out'
split_written f out out' (Ok n) (sound, _, (F, s, e, room, made)) h =
    written_is f F sound s n out' (front_is F out out' n e room made) e
split_written f out out' (Err (split.BadFile p)) says h = absurd (omega (arith, h))
split_written f out out' (Err split.TooMany) says h = absurd (omega (arith, h))
split_written f out out' (Err split.Short) says h = absurd (omega (arith, h))
