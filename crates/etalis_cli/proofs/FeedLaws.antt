-- Pieces one after another.
use Rattle.std.proofs.Common.{◌≡◌, ℕ, ◌+◌, ◌≤◌, true, false, cond, eqb, List, [], ◌∷◌, ◌++◌, Option, Some, length, refl, sym, ap, ◌∙◌, subst, arith, append-nil, append_assoc, length-append}
use Rattle.std.specs.Io.KnownBytes.{append_known}
use Rattle.flow_ports.specs.Flow.{Gives, GivesPart}
use Rattle.flow_ports.proofs.FlowLemmas.{append_known-nil, gives_more}
use Rattle.event_model.specs.Lines.{without_cr, ended, rest, ended_from, rest_from, ended_from-append, rest_from-append}
use Rattle.line_reader.specs.Cutting.{NoFeed}
use Rattle.line_reader.specs.Holding.{Holds}
use Rattle.line_reader.specs.declared.reading.LineReader.{LineReader}
use Rattle.line_reader.proofs.CutLaws.{ended-line, rest-line, ended-open, rest-open, ended-front, rest-front}
use Rattle.etalis_cli.specs.Output.{Talk, after, after_line, reply_to, replies}
use Rattle.etalis_cli.specs.StandsFor.{StandsFor}
use Rattle.etalis_cli.specs.Feeds.{Kept, Feeds, Between, FedTo, FeedsPart}
use Rattle.etalis_cli.specs.declared.session.Session.{Session}
use Rattle.etalis_cli.proofs.NoteLaws.{part_longer, part_behind}

-- ---- states and replies, one list of lines after another

pub after-append : (s : Talk) (ls ms : List (List ℕ)) → after s (ls ++ ms) ≡ after (after s ls) ms
after-append s [] ms = refl
after-append s (l ∷ ls) ms = after-append (after_line s l) ls ms

pub replies-append : (s : Talk) (ls ms : List (List ℕ)) → replies s (ls ++ ms) ≡ replies s ls ++ replies (after s ls) ms
replies-append s [] ms = refl
replies-append s (l ∷ ls) ms =
    ap (λ t. reply_to s l ++ t) (replies-append (after_line s l) ls ms) ∙ sym (append_assoc (reply_to s l) (replies (after_line s l) ls) (replies (after (after_line s l) ls) ms))

pub count-after : (s : Talk) (ls : List (List ℕ)) → (after s ls).state.count ≡ s.state.count + length ls
count-after s [] = omega arith
count-after s (l ∷ ls) = omega (arith, count-after (after_line s l) ls)

-- ---- pieces

pub feeds_none : (a : Kept) → Feeds a a []
feeds_none a = record { talk = refl; part = refl; got = sym (append_known-nil a.got) }

-- the replies to two pieces
pub replies_both : (a : Kept) (xs ys : List ℕ)
    → replies a.talk (ended_from a.part (xs ++ ys)) ≡ replies a.talk (ended_from a.part xs) ++ replies (after a.talk (ended_from a.part xs)) (ended_from (rest_from a.part xs) ys)
replies_both a xs ys = ap (replies a.talk) (ended_from-append a.part xs ys) ∙ replies-append a.talk (ended_from a.part xs) (ended_from (rest_from a.part xs) ys)

-- the replies to the second piece, from where the first one led
pub second : (a b : Kept) (xs ys : List ℕ) → Feeds a b xs
    → replies b.talk (ended_from b.part ys) ≡ replies (after a.talk (ended_from a.part xs)) (ended_from (rest_from a.part xs) ys)
second a b xs ys p = ap (λ s. replies s (ended_from b.part ys)) p.talk ∙ ap (λ r. replies (after a.talk (ended_from a.part xs)) (ended_from r ys)) p.part

pub feeds_more : (a b c : Kept) (xs ys : List ℕ) → Feeds a b xs → Feeds b c ys → Feeds a c (xs ++ ys)
feeds_more a b c xs ys p q = record {
  talk = q.talk ∙ ap (λ s. after s (ended_from b.part ys)) p.talk ∙ ap (λ r. after (after a.talk (ended_from a.part xs)) (ended_from r ys)) p.part
      ∙ sym (after-append a.talk (ended_from a.part xs) (ended_from (rest_from a.part xs) ys)) ∙ sym (ap (after a.talk) (ended_from-append a.part xs ys));
  part = q.part ∙ ap (λ r. rest_from r ys) p.part ∙ sym (rest_from-append a.part xs ys);
  got = gives_more a.got b.got c.got _ _ _ p.got q.got (ap (λ t. replies a.talk (ended_from a.part xs) ++ t) (second a b xs ys p) ∙ sym (replies_both a xs ys));
}

-- nothing went out
pub part_none : (a : Kept) (got : Option (List ℕ)) (piece : List ℕ) → got ≡ a.got → FeedsPart a got piece
part_none a got piece e = record { sent = (0, e ∙ sym (append_known-nil a.got)) }

-- ---- how many lines a piece ends

pub length-ended_from : (p xs : List ℕ) → length (ended_from p xs) ≤ length xs
length-ended_from p [] = omega arith
length-ended_from p (x ∷ xs) =
    elim (eqb x 10) as (λ t. length (cond t (without_cr p ∷ ended_from [] xs) (ended_from (p ++ x ∷ []) xs)) ≤ length (x ∷ xs))
    [ true ↦ omega (arith, length-ended_from [] xs) | false ↦ omega (arith, length-ended_from (p ++ x ∷ []) xs) ]

-- ---- pieces with the session and the reader

-- Of a part of a line and a piece, all lines were taken whose line feeds are among the bytes done. These are their replies.
pub record Taken (start : Talk) (part piece text : List ℕ) : Type 0 where
  pub reached : Talk
  pub done : List ℕ
  pub left : List ℕ
  pub whole : part ++ piece ≡ done ++ left
  pub feeds : Feeds (record { talk = start; part = []; got = Some [] }) (record { talk = reached; part = []; got = Some text }) done

-- The session stands for what they come to, and the reader holds the rest.
pub record Drained (start : Talk) (part piece text : List ℕ) (session : Session) (reader : LineReader) : Type 0 where
  pub taken : Taken start part piece text
  pub stands : StandsFor session taken.reached
  pub holds : Holds reader taken.left

-- Of these replies the first ones went out, and the others are gathered.
pub record Sending (start : Talk) (part piece : List ℕ) (got got' : Option (List ℕ)) (text : List ℕ) (session : Session) (reader : LineReader) : Type 0 where
  pub sent : List ℕ
  pub gives : Gives got got' sent
  pub drained : Drained start part piece (sent ++ text) session reader

pub drained_none : (s : Talk) (part piece text : List ℕ) (session : Session) (reader : LineReader) → text ≡ [] → StandsFor session s → Holds reader (part ++ piece) → Drained s part piece text session reader
drained_none s part piece text session reader e p h = record {
  taken = record { reached = s; done = []; left = part ++ piece; whole = refl; feeds = record { talk = refl; part = refl; got = ap Some e } };
  stands = p;
  holds = h;
}

-- one line more
pub taken_line : (s : Talk) (part piece t u : List ℕ) (d : Taken s part piece t) (raw more : List ℕ)
    → d.left ≡ raw ++ 10 ∷ more → NoFeed raw → u ≡ t ++ reply_to d.reached (without_cr raw) → Taken s part piece u
taken_line s part piece t u d raw more e plain text =
    let line : List ℕ = raw ++ 10 ∷ [] in
    let lines : ended line ≡ without_cr raw ∷ [] = ended-line raw [] plain in
    record {
      reached = after_line d.reached (without_cr raw);
      done = d.done ++ line;
      left = more;
      whole = d.whole ∙ ap (λ l. d.done ++ l) (e ∙ sym (append_assoc raw (10 ∷ []) more)) ∙ sym (append_assoc d.done line more);
      feeds = feeds_more _ _ _ d.done line d.feeds (record {
        talk = ap (after d.reached) (sym lines);
        part = sym (rest-line raw [] plain);
        got = ap Some (text ∙ ap (λ r. t ++ r) (sym (append-nil (reply_to d.reached (without_cr raw)))) ∙ ap (λ l. t ++ replies d.reached l) (sym lines));
      });
    }

pub drained_line : (s : Talk) (part piece t u : List ℕ) (a b : Session) (p q : LineReader) (d : Drained s part piece t a p) (raw more : List ℕ)
    → d.taken.left ≡ raw ++ 10 ∷ more → NoFeed raw → Holds q more → u ≡ t ++ reply_to d.taken.reached (without_cr raw) → StandsFor b (after_line d.taken.reached (without_cr raw)) → Drained s part piece u b q
unfolding taken_line
drained_line s part piece t u a b p q d raw more e plain holds text next = record { taken = taken_line s part piece t u d.taken raw more e plain text; stands = next; holds = holds }

-- a reply more is gathered
pub reply_more : (sent text more reply : List ℕ) → more ≡ text ++ reply → sent ++ more ≡ (sent ++ text) ++ reply
reply_more sent text more reply e = ap (λ l. sent ++ l) e ∙ sym (append_assoc sent text reply)

-- more of what is gathered goes out
pub sent_more : (sent text first rest : List ℕ) → text ≡ first ++ rest → (sent ++ first) ++ rest ≡ sent ++ text
sent_more sent text first rest e = append_assoc sent first rest ∙ ap (λ l. sent ++ l) (sym e)

-- the lines of the part and the piece are those that were taken, and those of the rest
lines_taken : (s : Talk) (part piece text : List ℕ) (d : Taken s part piece text) → NoFeed part → ended_from part piece ≡ ended d.done ++ ended_from (rest d.done) d.left
lines_taken s part piece text d plain = ended-front part piece plain ∙ ap ended d.whole ∙ ended_from-append [] d.done d.left

-- the lines so far are no more than the bytes of the piece
pub taken_count : (s : Talk) (part piece text : List ℕ) (d : Taken s part piece text) → NoFeed part → d.reached.state.count ≤ s.state.count + length piece
taken_count s part piece text d plain =
    let e : d.reached.state.count ≡ s.state.count + length (ended d.done) = ap (λ (x : Talk). x.state.count) d.feeds.talk ∙ count-after s (ended d.done) in
    let f : length (ended_from part piece) ≡ length (ended d.done) + length (ended_from (rest d.done) d.left) =
    ap length (lines_taken s part piece text d plain) ∙ length-append (ended d.done) (ended_from (rest d.done) d.left) in
    omega (arith, e, f, length-ended_from part piece)

same_some : (xs ys : List ℕ) → Some xs ≡ Some ys → xs ≡ ys
same_some xs ys e = cc

-- the replies to the piece begin with those to the lines that were taken
pub part_taken : (s : Talk) (part piece sent text : List ℕ) (got got' got'' : Option (List ℕ)) → Taken s part piece (sent ++ text) → NoFeed part → Gives got got' sent → GivesPart got' got'' text
    → FeedsPart (record { talk = s; part = part; got = got }) got'' piece
part_taken s part piece sent text got got' got'' d plain gives part_of =
    let more : List ℕ = replies (after s (ended d.done)) (ended_from (rest d.done) d.left) in
    let all : (sent ++ text) ++ more ≡ replies s (ended_from part piece) =
    ap (λ l. l ++ more) (same_some _ _ d.feeds.got) ∙ sym (replies-append s (ended d.done) (ended_from (rest d.done) d.left)) ∙ ap (replies s) (sym (lines_taken s part piece _ d plain)) in
    record { sent = subst (GivesPart got got'') all (part_longer got got'' (sent ++ text) more (part_behind got got' got'' sent text gives part_of)) }

-- no line is left, and all replies went out
pub drained_all : (s : Talk) (part piece text : List ℕ) (got got' : Option (List ℕ)) (session : Session) (reader last : LineReader) (d : Drained s part piece text session reader) → NoFeed part → NoFeed d.taken.left → Holds last d.taken.left
    → Gives got got' text → FedTo (record { talk = s; part = part; got = got }) session last got' piece
drained_all s part piece text got got' session reader last drained whole plain holds gives =
    let d = drained.taken in
    let lines : ended d.left ≡ [] = ended-open d.left plain in
    let f : Feeds (record { talk = s; part = []; got = Some [] }) (record { talk = d.reached; part = d.left; got = Some text }) (d.done ++ d.left) = feeds_more _ (record { talk = d.reached; part = []; got = Some text }) _ d.done d.left d.feeds (record {
      talk = ap (after d.reached) (sym lines);
      part = sym (rest-open d.left plain);
      got = sym (append_known-nil (Some text)) ∙ ap (λ l. append_known (Some text) (replies d.reached l)) (sym lines);
    }) in
    let same_ended : ended (d.done ++ d.left) ≡ ended_from part piece = ap ended (sym d.whole) ∙ sym (ended-front part piece whole) in
    let same_rest : rest (d.done ++ d.left) ≡ rest_from part piece = ap rest (sym d.whole) ∙ sym (rest-front part piece whole) in
    record {
      reached = d.reached;
      rest = d.left;
      between = record { stands = drained.stands; holds = holds; plain = plain };
      feeds = record {
        talk = f.talk ∙ ap (after s) same_ended;
        part = f.part ∙ same_rest;
        got = gives ∙ ap (append_known got) (same_some _ _ f.got ∙ ap (replies s) same_ended);
      };
    }

-- ---- how many lines were taken

pub feeds_count : (a b : Kept) (xs : List ℕ) → Feeds a b xs → b.talk.state.count ≤ a.talk.state.count + length xs
feeds_count a b xs p =
    let e : b.talk.state.count ≡ a.talk.state.count + length (ended_from a.part xs) = ap (λ (s : Talk). s.state.count) p.talk ∙ count-after a.talk (ended_from a.part xs) in
    omega (arith, length-ended_from a.part xs)
