-- The words of a call, and the ranges of the numbers of a job.
use Rattle.std.proofs.Common.{◌≡◌, ◌∙◌, ◌<◌, ◌≤◌, refl, ap, subst, arith, ℕ, Bool, true, false, ◌&&◌, List, [], ◌∷◌, map, Option, Some, None, option_map, String, string_bytes, length}
use Rattle.std.specs.Prelude.{if◌then◌else◌, unwrap_or, IfSome, nat_lt, nat_le}
use Rattle.std.specs.List.{list_all}
use Rattle.std.specs.Str.Parse.{digits_value}
use Rattle.std.specs.declared.alloc.Global.{Global}
use Rattle.std.proofs.lemmas.Bool.{leb-true}
use Rattle.std.proofs.lemmas.Str.{IsUtf8-string_bytes}
use Rattle.event_model.specs.declared.events.TheConstants.{TIME_LIMIT}
use Rattle.job_words.specs.declared.jobs.Mode.{Mode}
use Rattle.job_words.specs.declared.jobs.TheConstants.{MOST_LATE, MOST_SEED, MOST_LINES, SEED_UNSAID, LINES_UNSAID}
use Rattle.job_words.specs.Account.{form, AreUtf8}
use Rattle.job_words.specs.Words.{Text, PlainJob, InForm, Late, Seed, Lines, is_digit, number_to, said_to, said, fits, mode_said, job_with, job_of, positional, values}
use Rattle.job_words.proofs.FormExact.{gives, account_sound, account_complete}

are_utf8 : (words : List (String Global)) → AreUtf8 (map string_bytes words)
are_utf8 [] = tt
are_utf8 (w ∷ words) = (IsUtf8-string_bytes w, are_utf8 words)

pub form_sound : (words : List (String Global)) (job : PlainJob) → form words ≡ Some job → InForm (map string_bytes words) job
form_sound words job e = account_sound (map string_bytes words) job (are_utf8 words) e

pub form_complete : (words : List (String Global)) (job : PlainJob) → InForm (map string_bytes words) job → form words ≡ Some job
form_complete words job f = account_complete (map string_bytes words) job (are_utf8 words) f

-- words without a form say no job
pub none_said : (words : List (String Global)) → form words ≡ None → (job : PlainJob) → InForm (map string_bytes words) job → ⊥
none_said words none job said = let some = form_complete words job said in cc

-- words that say no job have no form
pub no_form : (words : List (String Global)) → ((job : PlainJob) → InForm (map string_bytes words) job → ⊥) → form words ≡ None
no_form words none = go (form words) refl
  where
    go : (o : Option PlainJob) → form words ≡ o → o ≡ None
    go None e = refl
    go (Some job) e = absurd (none job (form_sound words job e))

-- ---- ranges

number_range : (m : ℕ) (word : Text) (n : ℕ) → number_to m word ≡ Some n → n ≤ m
number_range m word n e = go (list_all is_digit word) (nat_lt 0 (length word)) (nat_le (digits_value 10 word) m) refl e
  where
    go : (a b d : Bool) → nat_le (digits_value 10 word) m ≡ d → (if a && (b && d) then Some (digits_value 10 word) else None) ≡ Some n
        → n ≤ m
    go true true true le e = let is : digits_value 10 word ≡ n = ap (λ o. unwrap_or o n) e in let h =
        leb-true (digits_value 10 word) m le in omega arith
    go true true false le e = cc
    go true false d le e = cc
    go false b d le e = cc

abbrev Within : ℕ → Option ℕ → Type 0
Within m x = IfSome x (λ n. n ≤ m)

said_range : (m : ℕ) (vs : List Text) (x : Option ℕ) → said_to m vs ≡ Some x → Within m x
said_range m [] x e = go x e
  where
    go : (x : Option ℕ) → Some None ≡ Some x → Within m x
    go None e = tt
    go (Some n) e = cc
said_range m (word ∷ []) x e = go (number_to m word) x refl e
  where
    go : (r : Option ℕ) (x : Option ℕ) → number_to m word ≡ r → option_map (λ n. Some n) r ≡ Some x → Within m x
    go None x is e = cc
    go (Some k) None is e = cc
    go (Some k) (Some n) is e = number_range m word n (is ∙ ap (λ o. unwrap_or o (Some n)) e)
said_range m (word ∷ again ∷ more) x e = cc

-- the numbers of a job are in their ranges
pub record InRange (job : PlainJob) : Type 0 where
  pub late : IfSome job.late (λ late. late < TIME_LIMIT)
  pub seed : job.seed ≤ MOST_SEED
  pub lines : job.lines ≤ MOST_LINES

below_limit : (x : Option ℕ) → Within MOST_LATE x → IfSome x (λ late. late < TIME_LIMIT)
below_limit None h = tt
below_limit (Some n) h = omega arith

unwrap_range : (x : Option ℕ) (m unsaid : ℕ) → Within m x → unsaid ≤ m → unwrap_or x unsaid ≤ m
unwrap_range None m unsaid h le = le
unwrap_range (Some n) m unsaid h le = h

abbrev whole_job : Text → Mode → Option ℕ → Option ℕ → Option ℕ → PlainJob
whole_job rules mode late seed lines = record {
  mode = mode;
  rules = rules;
  late = late;
  seed = unwrap_or seed SEED_UNSAID;
  lines =
      unwrap_or lines LINES_UNSAID;
}

job_is_whole : (rules : Text) (mode : Mode) (late seed lines : Option ℕ) (job : PlainJob) → job_with rules mode late seed lines ≡ Some job
    → whole_job rules mode late seed lines ≡ job
job_is_whole rules mode late seed lines job e = go (fits mode late seed lines) e
  where
    go : (b : Bool) → (if b then Some (whole_job rules mode late seed lines) else None) ≡ Some job
        → whole_job rules mode late seed lines ≡ job
    go true e = ap (λ o. unwrap_or o job) e
    go false e = cc

job_range : (words lates seeds counts : List Text) (job : PlainJob) → job_of words lates seeds counts ≡ Some job → InRange job
job_range [] lates seeds counts job e = cc
job_range (m ∷ []) lates seeds counts job e = cc
job_range (m ∷ r ∷ q ∷ more) lates seeds counts job e = cc
job_range (m ∷ r ∷ []) lates seeds counts job e =
    let g = gives _ (mode_said m) job e in
    let l = gives _ (said Late lates) job g.gives in
    let s = gives _ (said Seed seeds) job l.gives in
    let n = gives _ (said Lines counts) job s.gives in
    let late = said_range MOST_LATE lates l.value l.is in
    let seed = said_range MOST_SEED seeds s.value s.is in
    let lines = said_range MOST_LINES counts n.value n.is in
    subst InRange (job_is_whole r g.value l.value s.value n.value job n.gives) (record {
      late = below_limit l.value late;
      seed = unwrap_range s.value MOST_SEED SEED_UNSAID seed (omega arith);
      lines = unwrap_range n.value MOST_LINES LINES_UNSAID lines (omega arith);
    })

form_range : (words : List Text) (job : PlainJob) → InForm words job → InRange job
form_range words job f = job_range (positional f.items f.rest) (values Late f.items) (values Seed f.items) (values Lines f.items) job f.says

pub in_range : (words : List (String Global)) (job : PlainJob) → form words ≡ Some job → InRange job
in_range words job e = form_range (map string_bytes words) job (form_sound words job e)
