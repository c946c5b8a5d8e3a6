-- The form by the parser's account is the form by how words are written.
use Rattle.std.proofs.Common.{◌≡◌, ◌∙◌, refl, sym, ap, ap₂, subst, Bool, true, false, not, ◌&&◌, ◌||◌, ℕ, List, [], ◌∷◌, ◌++◌, map, Option, Some, None, option_map, true≢false, length}
use Rattle.std.specs.Prelude.{option_and_then, if◌then◌else◌, unwrap_or, ◌==◌, nat_lt, nat_le}
use Rattle.std.specs.List.{flat_map, list_all}
use Rattle.std.specs.Str.{bytes_eq}
use Rattle.std.specs.Str.Parse.{digits_value}
use Rattle.std.proofs.lemmas.Bool.{and_from, and_parts, eqb-true}
use Rattle.std.proofs.lemmas.List.{append_assoc}
use Rattle.job_words.specs.Words.{Text, Late, Seed, Lines, Item, Alone, Apart, Joined, is_plain, positional, alone_in, values, is_digit, number_to, said_to, said, most, mode_said, PlainJob, job_of, InForm}
use Rattle.job_words.specs.Account.{account, job_in, AreUtf8}
use Rattle.job_words.proofs.ClapWalk.{Id, First, Second, Of, id_text, Use, row, has_use}
use Rattle.job_words.proofs.ClapSteps.{Place, Zero, One, Two, uses_of}
use Rattle.job_words.proofs.ClapForm.{start, account_is}
use Rattle.job_words.proofs.FormSound.{laid, uses_by, all_in, sound}
use Rattle.job_words.proofs.FormComplete.{has_plain, complete}
use Rattle.job_words.proofs.FormJob.{values_for, short, spread, option_values, job_is, values_append}

-- ---- what a job says of the values

pub record Gives (T : Type 0) (U : Type 0) (f : T → Option U) (o : Option T) (y : U) : Type 0 where
  pub value : T
  pub is : o ≡ Some value
  pub gives : f value ≡ Some y

pub gives : {T U : Type 0} (f : T → Option U) (o : Option T) (y : U) → option_and_then f o ≡ Some y → Gives T U f o y
gives f None y e = cc
gives f (Some x) y e = record { value = x; is = refl; gives = e }

digit_plain : (w : Text) → list_all is_digit w ≡ true → is_plain w ≡ true
digit_plain [] e = refl
digit_plain (b ∷ []) e = refl
digit_plain (b ∷ c ∷ more) e = go (b == 45) refl
  where
    go : (u : Bool) → (b == 45) ≡ u → not (b == 45) ≡ true
    go true is = absurd (true≢false
        (sym (ap is_digit (sym (eqb-true b 45 is)) ∙ (and_parts (is_digit b) (list_all is_digit (c ∷ more)) e).0)))
    go false is = ap not is

pub record Fair (values : List Text) : Type 0 where
  pub short : short values
  pub plain : list_all is_plain values ≡ true

number_digits : (most : ℕ) (w : Text) (x : Option ℕ) → option_map (λ n. Some n) (number_to most w) ≡ Some x → list_all is_digit w ≡ true
number_digits most w x e = go (list_all is_digit w) (nat_lt 0 (length w) && nat_le (digits_value 10 w) most) e
  where
    go : (a b : Bool) → option_map (λ n. Some n) (if a && b then Some (digits_value 10 w) else None) ≡ Some x → a ≡ true
    go true b e = refl
    go false b e = cc

said_fair : (most : ℕ) (vs : List Text) (x : Option ℕ) → said_to most vs ≡ Some x → Fair vs
said_fair most [] x e = record { short = refl; plain = refl }
said_fair most (w ∷ []) x e = record { short = refl; plain = and_from (is_plain w) true (digit_plain w (number_digits most w x e)) refl }
said_fair most (w ∷ again ∷ more) x e = cc

pub record Fairly (ps lates seeds counts : List Text) : Type 0 where
  pub mode : Text
  pub rules : Text
  pub words : ps ≡ mode ∷ rules ∷ []
  pub late : Fair lates
  pub seed : Fair seeds
  pub lines : Fair counts

fairly : (ps lates seeds counts : List Text) (job : PlainJob) → job_of ps lates seeds counts ≡ Some job → Fairly ps lates seeds counts
fairly [] lates seeds counts job e = cc
fairly (m ∷ []) lates seeds counts job e = cc
fairly (m ∷ r ∷ q ∷ more) lates seeds counts job e = cc
fairly (m ∷ r ∷ []) lates seeds counts job e =
    let g = gives _ (mode_said m) job e in
    let l = gives _ (said Late lates) job g.gives in
    let s = gives _ (said Seed seeds) job l.gives in
    let n = gives _ (said Lines counts) job s.gives in
    record {
      mode = m;
      rules = r;
      words = refl;
      late = said_fair (most Late) lates l.value l.is;
      seed =
          said_fair (most Seed) seeds s.value s.is;
      lines = said_fair (most Lines) counts n.value n.is;
    }

-- ---- the uses are there

abbrev Room : Place → List Text → Type 0
Room Two [] = Unit {0}
Room Two (p ∷ ps) = ⊥
Room One [] = Unit {0}
Room One (p ∷ ps) = Room Two ps
Room Zero [] = Unit {0}
Room Zero (p ∷ ps) = Room One ps

pub record Laid (o : Option (List Use)) : Type 0 where
  pub uses : List Use
  pub is : o ≡ Some uses

more_laid : (u : Use) (o : Option (List Use)) → Laid o → Laid (option_map (λ vs. u ∷ vs) o)
more_laid u o l = record { uses = u ∷ l.uses; is = ap (option_map (λ vs. u ∷ vs)) l.is }

rest_laid : (ws : List Text) (pl : Place) → Room pl ws → Laid (laid pl ws)
rest_laid [] pl room = record { uses = []; is = refl }
rest_laid (w ∷ ws) Zero room = more_laid (First, w) (laid One ws) (rest_laid ws One room)
rest_laid (w ∷ ws) One room = more_laid (Second, w) (laid Two ws) (rest_laid ws Two room)
rest_laid (w ∷ ws) Two room = absurd room

all_laid : (items : List Item) (rest : List Text) (pl : Place) → Room pl (flat_map alone_in items ++ rest) → Laid (uses_by pl items rest)
all_laid [] rest pl room = rest_laid rest pl room
all_laid (Alone w ∷ items) rest Zero room = more_laid (First, w) (uses_by One items rest) (all_laid items rest One room)
all_laid (Alone w ∷ items) rest One room = more_laid (Second, w) (uses_by Two items rest) (all_laid items rest Two room)
all_laid (Alone w ∷ items) rest Two room = absurd room
all_laid (Apart o v ∷ items) rest pl room = more_laid (Of o, v) (uses_by pl items rest) (all_laid items rest pl room)
all_laid (Joined o v ∷ items) rest pl room = more_laid (Of o, v) (uses_by pl items rest) (all_laid items rest pl room)

-- ---- no id twice

pub record HasFirst (xs : List Text) : Type 0 where
  pub first : Text
  pub rest : List Text
  pub is : xs ≡ first ∷ rest

some_step : (u : Use) (us : List Use) (i : Id) → (has_use i us ≡ true → HasFirst (values_for (id_text i) us)) → (b : Bool)
    → bytes_eq (id_text u.0) (id_text i) ≡ b → (b || has_use i us) ≡ true → HasFirst (values_for (id_text i) (u ∷ us))
some_step u us i ih true e h = record {
  first = u.1;
  rest = values_for (id_text i) us;
  is =
      ap (λ b. if b then u.1 ∷ values_for (id_text i) us else values_for (id_text i) us) e;
}
some_step u us i ih false e h = let s = ih h in
    record {
      first = s.first;
      rest = s.rest;
      is = ap (λ b. if b then u.1 ∷ values_for (id_text i) us else values_for (id_text i) us) e
          ∙ s.is;
    }

some_values : (i : Id) (us : List Use) → has_use i us ≡ true → HasFirst (values_for (id_text i) us)
some_values i [] e = absurd (true≢false (sym e))
some_values i (u ∷ us) e = some_step u us i (some_values i us) (bytes_eq (id_text u.0) (id_text i)) refl e

not_short : (x : Text) (xs : List Text) (y : Text) (ys : List Text) → short (x ∷ (xs ++ y ∷ ys)) → ⊥
not_short x [] y ys e = cc
not_short x (z ∷ xs) y ys e = cc

itself : (i : Id) → bytes_eq (id_text i) (id_text i) ≡ true
itself First = refl
itself Second = refl
itself (Of Late) = refl
itself (Of Seed) = refl
itself (Of Lines) = refl

all_once : (vs us0 : List Use) → ((i : Id) → short (values_for (id_text i) (us0 ++ vs))) → Laid (all_in us0 vs)
all_once [] us0 h = record { uses = us0; is = refl }
all_once (u ∷ vs) us0 h = all_step u vs us0 h (all_once vs (us0 ++ u ∷ [])) (has_use u.0 us0) refl
  where
    all_step : (u : Use) (vs us0 : List Use) → ((i : Id) → short (values_for (id_text i) (us0 ++ u ∷ vs)))
        → (((i : Id) → short (values_for (id_text i) ((us0 ++ u ∷ []) ++ vs))) → Laid (all_in (us0 ++ u ∷ []) vs)) → (b : Bool)
        → has_use u.0 us0 ≡ b
        → Laid (all_in us0 (u ∷ vs))
    all_step u vs us0 h ih true e =
        let s = some_values u.0 us0 e in
        let t = id_text u.0 in
        let here : values_for t (u ∷ vs) ≡ u.1 ∷ values_for t vs = ap (λ b. if b then u.1 ∷ values_for t vs else values_for t vs)
        (itself u.0) in
        absurd (not_short s.first s.rest u.1 (values_for t vs)
        (subst short (values_append t us0 (u ∷ vs) ∙ ap₂ (λ xs ys. xs ++ ys) s.is here) (h u.0)))
    all_step u vs us0 h ih false e =
        let l = ih (λ i. subst (λ us. short (values_for (id_text i) us)) (sym (append_assoc us0 (u ∷ []) vs)) (h i)) in
        record { uses = l.uses; is = ap (λ b. option_and_then (λ s. all_in s vs) (if b then None else Some (us0 ++ u ∷ []))) e ∙ l.is }

plain_items : (items : List Item) → list_all is_plain (values Late items) ≡ true → list_all is_plain (values Seed items) ≡ true
    → list_all is_plain (values Lines items) ≡ true → list_all has_plain items ≡ true
plain_items [] l s n = refl
plain_items (Alone w ∷ items) l s n = plain_items items l s n
plain_items (Joined Late v ∷ items) l s n = plain_items items (and_parts (is_plain v) _ l).1 s n
plain_items (Joined Seed v ∷ items) l s n = plain_items items l (and_parts (is_plain v) _ s).1 n
plain_items (Joined Lines v ∷ items) l s n = plain_items items l s (and_parts (is_plain v) _ n).1
plain_items (Apart Late v ∷ items) l s n = let p = and_parts (is_plain v) (list_all is_plain (values Late items)) l in
    ap₂ (λ a b. a && b) p.0 (plain_items items p.1 s n)
plain_items (Apart Seed v ∷ items) l s n = let p = and_parts (is_plain v) (list_all is_plain (values Seed items)) s in
    ap₂ (λ a b. a && b) p.0 (plain_items items l p.1 n)
plain_items (Apart Lines v ∷ items) l s n = let p = and_parts (is_plain v) (list_all is_plain (values Lines items)) n in
    ap₂ (λ a b. a && b) p.0 (plain_items items l s p.1)

-- ---- the law

-- the job by the smaller machine
abbrev pub walked_job : List Text → Option PlainJob
walked_job words = option_and_then (λ us. job_in (map row us)) (uses_of start words)

ids_short : (items : List Item) (rest : Option (List Text)) (vs : List Use) → uses_by Zero items (unwrap_or rest []) ≡ Some vs
    → Fairly (positional items rest) (values Late items) (values Seed items) (values Lines items) → (i : Id)
    → short (values_for (id_text i) vs)
ids_short items rest vs l fair First = (spread items (unwrap_or rest []) Zero vs l).1
ids_short items rest vs l fair Second = (spread items (unwrap_or rest []) Zero vs l).2
ids_short items rest vs l fair (Of Late) = subst short (sym (option_values Late items (unwrap_or rest []) Zero vs l)) fair.late.short
ids_short items rest vs l fair (Of Seed) = subst short (sym (option_values Seed items (unwrap_or rest []) Zero vs l)) fair.seed.short
ids_short items rest vs l fair (Of Lines) = subst short (sym (option_values Lines items (unwrap_or rest []) Zero vs l)) fair.lines.short

walked_sound : (words : List Text) (job : PlainJob) → walked_job words ≡ Some job → InForm words job
walked_sound words job e =
    let g = gives (λ us. job_in (map row us)) (uses_of start words) job e in
    let f = sound words start g.value g.is in
    record { items = f.items; rest = f.rest; splits = f.splits; says = sym (job_is f.items f.rest f.uses g.value f.laid f.all) ∙ g.gives }

walked_complete : (words : List Text) (job : PlainJob) → InForm words job → walked_job words ≡ Some job
walked_complete words job f =
    let fair = fairly (positional f.items f.rest) (values Late f.items) (values Seed f.items) (values Lines f.items) job f.says in
    let l = all_laid f.items (unwrap_or f.rest []) Zero (subst (Room Zero) (sym fair.words) tt) in
    let once = all_once l.uses [] (ids_short f.items f.rest l.uses l.is fair) in
    let plain = plain_items f.items fair.late.plain fair.seed.plain fair.lines.plain in
    let taken : uses_of start words ≡ Some once.uses = ap (uses_of start) f.splits.written
    ∙ complete f.items f.rest None [] Zero [] l.uses once.uses f.splits.free plain l.is refl once.is in
    ap (option_and_then (λ us. job_in (map row us))) taken ∙ job_is f.items f.rest l.uses once.uses l.is once.is ∙ f.says

pub account_sound : (words : List Text) (job : PlainJob) → AreUtf8 words → account words ≡ Some job → InForm words job
account_sound words job texts e = walked_sound words job (sym (account_is words texts) ∙ e)

pub account_complete : (words : List Text) (job : PlainJob) → AreUtf8 words → InForm words job → account words ≡ Some job
account_complete words job texts f = account_is words texts ∙ walked_complete words job f

pub one_job : (words : List Text) (job other : PlainJob) → InForm words job → InForm words other → job ≡ other
one_job words job other f g = ap (λ o. unwrap_or o job) (sym (walked_complete words job f) ∙ walked_complete words other g)
