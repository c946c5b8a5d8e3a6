-- What a run over the lines of a source has done, and how it ends.
use Rattle.std.proofs.Common.{◌≡◌, ℕ, ◌+◌, ◌-◌, ◌<◌, ◌≤◌, min, List, [], ◌∷◌, ◌++◌, Option, Some, None, Result, Ok, Err, length, take, drop, refl, sym, ap, ◌∙◌, subst, inr, arith, rules, append-nil, append_assoc, length-append}
use Rattle.std.specs.Prelude.{OnOk, OnErr, IsErrOf}
use Rattle.std.proofs.lemmas.List.{take-append-le, take_all, take_min, take-append-drop}
use Rattle.std.proofs.Math.Seq.{take-append-add}
use Rattle.std.specs.Io.KnownBytes.{append_known}
use Rattle.flow_ports.specs.Flow.{Takes, Gives, GivesPart, IsAtEnd}
use Rattle.flow_ports.proofs.FlowLemmas.{append_known-nil, append_known-append, prepend_known-nil, gives_more, takes_more}
use Rattle.event_model.specs.Lines.{without_cr, ended, rest, ended_from, last_line, lines_of, ended_from-append}
use Rattle.line_reader.specs.Holding.{Holds}
use Rattle.line_reader.specs.declared.reading.LineReader.{LineReader}
use Rattle.etalis_cli.specs.Output.{Setting, Talk, start, after, after_line, reply_to, replies, closing, out_text}
use Rattle.etalis_cli.specs.StandsFor.{StandsFor, setting_of}
use Rattle.etalis_cli.specs.Feeds.{Kept, Feeds, Between, FedTo, FeedsPart}
use Rattle.etalis_cli.specs.Outcome.{begin, Progress, Reached, tail, PartOf, Served, Written}
use Rattle.etalis_cli.specs.declared.session.Session.{Session}
use Rattle.etalis_cli.specs.declared.serving.TheConstants.{INPUT_LIMIT, MOST_PIECE_BYTES}
use Rattle.etalis_cli.specs.declared.serving.ServeFault.{ServeFault}
use Rattle.etalis_cli.specs.declared.serving.ServeFault.TheVariants.{Read, Write, Memory, TooLong}
use Rattle.etalis_cli.proofs.NoteLaws.{part_longer, part_behind}
use Rattle.etalis_cli.proofs.FeedLaws.{after-append, replies-append, feeds_none, feeds_more, feeds_count, replies_both, second}

-- ---- behind the last line feed

pub tail_some : (t : Talk) (part b u v : List ℕ) → (part ≡ [] → ⊥) → b ≡ [] → u ≡ b ++ reply_to t (without_cr part)
    → v ≡ u ++ closing (after_line t (without_cr part)) → v ≡ tail t part
tail_some t [] b u v some e g f = absurd (some refl)
tail_some t (x ∷ bytes) b u v some e g f =
    let r : List ℕ = reply_to t (without_cr (x ∷ bytes)) in
    let end : List ℕ = closing (after_line t (without_cr (x ∷ bytes))) in
    f ∙ ap (λ l. l ++ end) (g ∙ ap (λ l. l ++ r) e) ∙ ap (λ l. l ++ end) (sym (append-nil r))

-- before the first byte
pub between_none : (session : Session) (reader : LineReader) → StandsFor session (start (setting_of session)) → Holds reader [] → Between session reader (start (setting_of session)) []
between_none session reader stands holds = record { stands = stands; holds = holds; plain = search rules }

module _ (w : Setting) where
  pub progress_more : (left l1 l2 got : Option (List ℕ)) (now next : Kept) (n k : ℕ) (done piece : List ℕ)
      → Progress w left l1 got now n done → Takes l1 l2 piece → length piece ≡ k → Feeds now next piece → Progress w left l2 got next (n + k) (done ++ piece)
  progress_more left l1 l2 got now next n k done piece p t len f = record {
    takes = takes_more left l1 l2 done piece (done ++ piece) p.takes t refl;
    feeds = feeds_more (begin w got) now next done piece p.feeds f;
    count = omega (arith, length-append done piece, p.count);
  }

  pub progress_count : (left l1 got : Option (List ℕ)) (now : Kept) (n : ℕ) (done : List ℕ) → Progress w left l1 got now n done → now.talk.state.count ≤ n
  progress_count left l1 got now n done p = omega (arith, feeds_count (begin w got) now done p.feeds, p.count)

  -- the whole output begins with the replies to the lines that an LF has ended so far
  pub out_begins : (done more : List ℕ) → (t : List ℕ) × (out_text w (done ++ more) ≡ replies (start w) (ended done) ++ t)
  out_begins done more =
      let e : List (List ℕ) = ended_from (rest done) more in
      let l : List (List ℕ) = last_line (rest (done ++ more)) in
      let s : Talk = after (start w) (ended done) in
      let lines : lines_of (done ++ more) ≡ ended done ++ (e ++ l) = ap (λ x. x ++ l) (ended_from-append [] done more) ∙ append_assoc (ended done) e l in
      let end : List ℕ = closing (after (start w) (lines_of (done ++ more))) in
      (replies s (e ++ l) ++ end, ap (λ x. replies (start w) x ++ end) lines ∙ ap (λ x. x ++ end) (replies-append (start w) (ended done) (e ++ l)) ∙ append_assoc (replies (start w) (ended done)) (replies s (e ++ l)) end)

  pub replies_shorter : (xs ys : List ℕ) → length (replies (start w) (ended xs)) ≤ length (replies (start w) (ended (xs ++ ys)))
  replies_shorter xs ys =
      let e : length (replies (start w) (ended (xs ++ ys))) ≡ length (replies (start w) (ended xs)) + length (replies (after (start w) (ended xs)) (ended_from (rest xs) ys)) =
      ap length (ap (replies (start w)) (ended_from-append [] xs ys) ∙ replies-append (start w) (ended xs) (ended_from (rest xs) ys)) ∙ length-append (replies (start w) (ended xs)) (replies (after (start w) (ended xs)) (ended_from (rest xs) ys)) in
      omega (arith, e)

  -- of two pieces all replies of the first one went out, and some first part of those of the second one
  pub part_after : (a b : Kept) (got : Option (List ℕ)) (xs ys : List ℕ) → Feeds a b xs → FeedsPart b got ys
      → (k : ℕ) × (length (replies a.talk (ended_from a.part xs)) ≤ k) × (k ≤ length (replies a.talk (ended_from a.part (xs ++ ys)))) × Gives a.got got (take k (replies a.talk (ended_from a.part (xs ++ ys))))
  part_after a b got xs ys p q =
      let first : List ℕ = replies a.talk (ended_from a.part xs) in
      let more : List ℕ = replies b.talk (ended_from b.part ys) in
      let joined : replies a.talk (ended_from a.part (xs ++ ys)) ≡ first ++ more =
      replies_both a xs ys ∙ ap (λ t. first ++ t) (sym (second a b xs ys p)) in
      let n : ℕ = min q.sent.0 (length more) in
      let len : length (replies a.talk (ended_from a.part (xs ++ ys))) ≡ length first + length more = ap length joined ∙ length-append first more in
      let sent : got ≡ append_known b.got (take n more) = q.sent.1 ∙ ap (append_known b.got) (sym (take_min q.sent.0 more)) in (
        length first + n,
        omega arith,
        omega (arith, len),
        sent ∙ ap (λ x. append_known x (take n more)) p.got ∙ append_known-append a.got first (take n more)
            ∙ ap (append_known a.got) (sym (take-append-add first more n) ∙ ap (take (length first + n)) (sym joined)),
      )

  pub part_of : (left' got got' : Option (List ℕ)) (before piece : List ℕ) (k : ℕ) → length piece ≤ MOST_PIECE_BYTES → length (replies (start w) (ended before)) ≤ k → k ≤ length (replies (start w) (ended (before ++ piece)))
      → Gives got got' (take k (replies (start w) (ended (before ++ piece)))) → PartOf w left' got got' (before ++ piece)
  part_of None got got' before piece k small low high sent = record { part = tt }
  part_of (Some more) got got' before piece k small low high sent =
      let done : List ℕ = before ++ piece in
      let (t, begins) = out_begins done more in
      let m : ℕ = length done - MOST_PIECE_BYTES in
      let len : length done ≡ length before + length piece = length-append before piece in
      let le : m ≤ length before = omega (arith, len) in
      let front : take m done ≡ take m before = take-append-le m before piece le in
      let mono : length (replies (start w) (ended (take m before))) ≤ length (replies (start w) (ended before)) =
      subst (λ x. length (replies (start w) (ended (take m before))) ≤ length (replies (start w) (ended x))) (take-append-drop m before) (replies_shorter (take m before) (drop m before)) in
      record {
        part = (
          k,
          sent ∙ ap (append_known got) (sym (take-append-le k (replies (start w) (ended done)) t high) ∙ ap (take k) (sym begins)),
          subst (λ x. length (replies (start w) (ended x)) ≤ k) (sym front) (omega (arith, mono, low)),
        );
      }

  -- the last piece's replies went out in part
  pub part_feeding : (left l1 l2 got got' : Option (List ℕ)) (now : Kept) (n : ℕ) (done piece : List ℕ) → Progress w left l1 got now n done → length piece ≤ MOST_PIECE_BYTES → FeedsPart now got' piece
      → PartOf w l2 got got' (done ++ piece)
  part_feeding left l1 l2 got got' now n done piece p small q =
      let (k, low, high, sent) = part_after (begin w got) now got' done piece p.feeds q in
      part_of l2 got got' done piece k small low high sent

  -- all replies so far went out
  pub part_whole : (left l1 got : Option (List ℕ)) (now : Kept) (n : ℕ) (done : List ℕ) → Progress w left l1 got now n done → PartOf w l1 got now.got done
  part_whole left l1 got now n done p =
      let all : List ℕ = replies (start w) (ended done) in
      subst (PartOf w l1 got now.got) (append-nil done)
      (part_of l1 got now.got done [] (length all) (omega arith) (omega arith) (subst (λ x. length all ≤ length (replies (start w) (ended x))) (sym (append-nil done)) (omega arith))
      (p.feeds.got ∙ ap (append_known got) (sym (take_all (length all) all (omega arith)) ∙ ap (λ x. take (length all) (replies (start w) (ended x))) (sym (append-nil done)))))

  -- ---- the exits

  -- the tail is what the whole output has behind the replies so far
  pub out_text_is : (got : Option (List ℕ)) (now : Kept) (done : List ℕ) → Feeds (begin w got) now done → out_text w done ≡ replies (start w) (ended done) ++ tail now.talk now.part
  out_text_is got now done p =
      let l : List (List ℕ) = last_line (rest done) in
      let s : Talk = after (start w) (ended done) in
      let first : List ℕ = replies (start w) (ended done) in
      let whole : out_text w done ≡ first ++ (replies s l ++ closing (after s l)) =
      ap (λ x. x ++ closing (after (start w) (ended done ++ l))) (replies-append (start w) (ended done) l)
      ∙ append_assoc first (replies s l) (closing (after (start w) (ended done ++ l)))
      ∙ ap (λ t. first ++ (replies s l ++ closing t)) (after-append (start w) (ended done) l) in
      whole ∙ ap (λ x. replies (start w) (ended done) ++ tail x (rest done)) (sym p.talk) ∙ ap (λ r. replies (start w) (ended done) ++ tail now.talk r) (sym p.part)

  takes_none : (left l1 l2 : Option (List ℕ)) (done : List ℕ) → Takes left l1 done → Takes l1 l2 [] → Takes left l2 done
  takes_none left l1 l2 done p q = takes_more left l1 l2 done [] done p q (append-nil done)

  -- at the end of the source a first part of the tail went out
  part_ending : (l2 got got' : Option (List ℕ)) (now : Kept) (done : List ℕ) → Feeds (begin w got) now done → IsAtEnd l2 → GivesPart now.got got' (tail now.talk now.part) → PartOf w l2 got got' done
  part_ending None got got' now done p end q = record { part = tt }
  part_ending (Some more) got got' now done p end q =
      let first : List ℕ = replies (start w) (ended done) in
      let last : List ℕ = tail now.talk now.part in
      let m : ℕ = length done - MOST_PIECE_BYTES in
      let all : out_text w (done ++ more) ≡ first ++ last = ap (out_text w) (ap (λ x. done ++ x) end ∙ append-nil done) ∙ out_text_is got now done p in
      let low : length (replies (start w) (ended (take m done))) ≤ length first =
      subst (λ x. length (replies (start w) (ended (take m done))) ≤ length (replies (start w) (ended x))) (take-append-drop m done) (replies_shorter (take m done) (drop m done)) in
      record {
        part = (
          length first + q.0,
          q.1 ∙ ap (λ x. append_known x (take q.0 last)) p.got ∙ append_known-append got first (take q.0 last)
              ∙ ap (append_known got) (sym (take-append-add first last q.0) ∙ ap (take (length first + q.0)) (sym all)),
          omega (arith, low),
        );
      }

  -- what the last call answered
  pub served_end : (r : Result (Unit {0}) ServeFault) (left l1 l2 got got' : Option (List ℕ)) (rose : Type 0) (now : Kept) (n : ℕ) (done : List ℕ) → Progress w left l1 got now n done → n < INPUT_LIMIT
      → Takes l1 l2 [] → IsAtEnd l2 → OnOk r (Gives now.got got' (tail now.talk now.part)) → OnErr r (GivesPart now.got got' (tail now.talk now.part))
      → (IsErrOf r Read → ⊥) → (IsErrOf r TooLong → ⊥) → Served w r left l2 got got' rose done
  served_end (Ok x) left l1 l2 got got' rose now n done p lt t end ok err no_read no_long = record {
    takes = takes_none left l1 l2 done p.takes t;
    ends = (omega (arith, p.count), end, gives_more got now.got got' _ _ _ p.feeds.got ok (sym (out_text_is got now done p.feeds)));
  }
  served_end (Err Read) left l1 l2 got got' rose now n done p lt t end ok err no_read no_long = absurd (no_read refl)
  served_end (Err TooLong) left l1 l2 got got' rose now n done p lt t end ok err no_read no_long = absurd (no_long refl)
  served_end (Err Write) left l1 l2 got got' rose now n done p lt t end ok err no_read no_long = record {
    takes = takes_none left l1 l2 done p.takes t;
    ends = (omega (arith, p.count), part_ending l2 got got' now done p.feeds end err);
  }
  served_end (Err Memory) left l1 l2 got got' rose now n done p lt t end ok err no_read no_long = record {
    takes = takes_none left l1 l2 done p.takes t;
    ends = part_ending l2 got got' now done p.feeds end err;
  }

  -- the loop ended at its limit
  pub served_long : (left l1 got : Option (List ℕ)) (rose : Type 0) (now : Kept) (n : ℕ) (done : List ℕ) → Progress w left l1 got now n done → INPUT_LIMIT ≤ n → Served w (Err TooLong) left l1 got now.got rose done
  served_long left l1 got rose now n done p le = record {
    takes = p.takes;
    ends = (omega (arith, p.count), part_whole left l1 got now n done p, inr p.feeds.got);
  }

  -- the last piece was taken too
  takes_part : (left l1 l2 got : Option (List ℕ)) (now : Kept) (n : ℕ) (done piece : List ℕ) → Progress w left l1 got now n done → Takes l1 l2 piece → Takes left l2 (done ++ piece)
  takes_part left l1 l2 got now n done piece p t = takes_more left l1 l2 done piece (done ++ piece) p.takes t refl

  -- ---- with the session and the reader

  pub reached_more : (left l1 l2 got : Option (List ℕ)) (a b : Session) (p q : LineReader) (g h : Option (List ℕ)) (n k : ℕ) (done piece : List ℕ) → Reached w left l1 got a p g n done
      → Takes l1 l2 piece → length piece ≡ k → ((s : Talk) (part : List ℕ) → Between a p s part → FedTo (record { talk = s; part = part; got = g }) b q h piece) → Reached w left l2 got b q h (n + k) (done ++ piece)
  reached_more left l1 l2 got a b p q g h n k done piece r t len more =
      let m = more r.reached r.rest r.between in
      record { reached = m.reached; rest = m.rest; between = m.between; progress = progress_more left l1 l2 got _ _ n k done piece r.progress t len m.feeds }

  pub reached_count : (left l1 got : Option (List ℕ)) (session : Session) (reader : LineReader) (sent : Option (List ℕ)) (n : ℕ) (done : List ℕ) → (r : Reached w left l1 got session reader sent n done) → r.reached.state.count ≤ n
  reached_count left l1 got session reader sent n done r = progress_count left l1 got _ n done r.progress

  -- a first part of the last piece's replies went out
  pub reached_part : (left l1 l2 got got' : Option (List ℕ)) (session : Session) (reader : LineReader) (sent : Option (List ℕ)) (n : ℕ) (done piece : List ℕ) → Reached w left l1 got session reader sent n done
      → length piece ≤ MOST_PIECE_BYTES → ((s : Talk) (part : List ℕ) → Between session reader s part → FeedsPart (record { talk = s; part = part; got = sent }) got' piece) → PartOf w l2 got got' (done ++ piece)
  reached_part left l1 l2 got got' session reader sent n done piece r small more = part_feeding left l1 l2 got got' _ n done piece r.progress small (more r.reached r.rest r.between)

  -- the last piece was taken too
  pub reached_takes : (left l1 l2 got : Option (List ℕ)) (session : Session) (reader : LineReader) (sent : Option (List ℕ)) (n : ℕ) (done piece : List ℕ) → Reached w left l1 got session reader sent n done
      → Takes l1 l2 piece → Takes left l2 (done ++ piece)
  reached_takes left l1 l2 got session reader sent n done piece r t = takes_part left l1 l2 got _ n done piece r.progress t

  -- before the first piece
  pub reached_none : (left got : Option (List ℕ)) (session : Session) (reader : LineReader) → Between session reader (start w) [] → Reached w left left got session reader got 0 []
  reached_none left got session reader b = record {
    reached = start w;
    rest = [];
    between = b;
    progress = record {
      takes = sym (prepend_known-nil left);
      feeds = feeds_none (begin w got);
      count = refl;
    };
  }

  -- ---- over bytes that are there

  -- some first part of the replies to all lines but a last one without a line feed went out
  pub written_part : (got got' : Option (List ℕ)) (bytes : List ℕ) → FeedsPart (begin w got) got' bytes → GivesPart got got' (out_text w bytes)
  written_part got got' bytes q =
      let (t, begins) = out_begins bytes [] in
      subst (GivesPart got got') (sym begins ∙ ap (out_text w) (append-nil bytes)) (part_longer got got' (replies (start w) (ended bytes)) t q.sent)

  -- what the last call answered
  pub written_end : (r : Result (Unit {0}) ServeFault) (got got' : Option (List ℕ)) (now : Kept) (bytes : List ℕ) → Feeds (begin w got) now bytes
      → OnOk r (Gives now.got got' (tail now.talk now.part)) → OnErr r (GivesPart now.got got' (tail now.talk now.part))
      → (IsErrOf r Read → ⊥) → (IsErrOf r TooLong → ⊥) → Written r got got' (out_text w bytes)
  written_end (Ok x) got got' now bytes p ok err no_read no_long = gives_more got now.got got' _ _ _ p.got ok (sym (out_text_is got now bytes p))
  written_end (Err Read) got got' now bytes p ok err no_read no_long = absurd (no_read refl)
  written_end (Err TooLong) got got' now bytes p ok err no_read no_long = absurd (no_long refl)
  written_end (Err Write) got got' now bytes p ok err no_read no_long =
      subst (GivesPart got got') (sym (out_text_is got now bytes p)) (part_behind got now.got got' _ _ p.got err)
  written_end (Err Memory) got got' now bytes p ok err no_read no_long =
      subst (GivesPart got got') (sym (out_text_is got now bytes p)) (part_behind got now.got got' _ _ p.got err)

-- nothing went out
pub unwritten : (r : Result (Unit {0}) ServeFault) (got : Option (List ℕ)) (text : List ℕ) → r ≡ Err Memory → Written r got got text
unwritten r got text e = subst (λ x. Written x got got text) (sym e) (0, sym (append_known-nil got))
