-- Laws of events: of a list in two parts, and of the events by which bytes are written.
use Rattle.std.proofs.Common.{◌≡◌, ℕ, List, [], ◌∷◌, ◌++◌, Bool, true, false, cond, Option, Some, unwrap_or, refl, ap, sym, ◌∙◌, append_assoc}
use Rattle.std.proofs.Math.Path.{fun_ext}
use Rattle.std.proofs.lemmas.List.{append-nil}
use Rattle.std.specs.Map.{update}
use Rattle.std.specs.Str.{bytes_eq}
use Rattle.std.proofs.lemmas.Slice.Eq.{bytes_eq-Decides}
use Rattle.spk_world.specs.Outside.{Outside, Event, after, after_event, added, started, spoken, says, adds, starts}

-- after two lists of events, one after the other
pub after-append : (outside : Outside) (first second : List Event) → after outside (first ++ second) ≡ after (after outside first) second
unfolding after
after-append outside [] second = refl
after-append outside (e ∷ es) second = after-append (after_event outside e) es second

-- a text equals itself
pub bytes_eq-same : (bytes : List ℕ) → bytes_eq bytes bytes ≡ true
bytes_eq-same bytes = (bytes_eq-Decides bytes bytes).1 refl

cond-again : (b : Bool) (v w u : Option (List ℕ)) → cond b w (cond b v u) ≡ cond b w u
cond-again true v w u = refl
cond-again false v w u = refl

-- a name is written to twice
pub update-again : (f : List ℕ → Option (List ℕ)) (name : List ℕ) (v w : Option (List ℕ)) → update bytes_eq (update bytes_eq f name v) name w ≡ update bytes_eq f name w
update-again f name v w = fun_ext (λ q. cond-again (bytes_eq name q) v w (f q))

pub update-same : (f : List ℕ → Option (List ℕ)) (name : List ℕ) (v : Option (List ℕ)) → update bytes_eq f name v name ≡ v
update-same f name v = ap (λ b. cond b v (f name)) (bytes_eq-same name)

-- bytes are added by two pieces
pub added-append : (outside : Outside) (name first second : List ℕ) → added (added outside name first) name second ≡ added outside name (first ++ second)
added-append outside name first second =
    let once = Some (unwrap_or (outside.files name) [] ++ first) in
    let twice : unwrap_or (update bytes_eq outside.files name once name) [] ++ second ≡ unwrap_or (outside.files name) [] ++ (first ++ second) =
    ap (λ o. unwrap_or o [] ++ second) (update-same outside.files name once) ∙ append_assoc (unwrap_or (outside.files name) []) first second in
    ap (λ fs. record outside { files = fs }) (update-again outside.files name once _ ∙ ap (λ v. update bytes_eq outside.files name (Some v)) twice)

spoken-append : (outside : Outside) (first second : List ℕ) → spoken (spoken outside first) second ≡ spoken outside (first ++ second)
spoken-append outside first second = ap (λ said. record outside { said = said }) (append_assoc outside.said first second)

-- the events of a piece do what the piece does
pub after-says : (outside : Outside) (bytes : List ℕ) → after outside (says bytes) ≡ spoken outside bytes
unfolding after says
after-says outside [] = ap (λ said. record outside { said = said }) (sym (append-nil outside.said))
after-says outside (b ∷ bytes) = after-says (spoken outside (b ∷ [])) bytes ∙ spoken-append outside (b ∷ []) bytes

pub after-adds : (outside : Outside) (name : List ℕ) (b : ℕ) (bytes : List ℕ) → after outside (adds name (b ∷ bytes)) ≡ added outside name (b ∷ bytes)
unfolding after adds
after-adds outside name b [] = refl
after-adds outside name b (c ∷ bytes) = after-adds (added outside name (b ∷ [])) name c bytes ∙ added-append outside name (b ∷ []) (c ∷ bytes)

pub after-starts : (outside : Outside) (name : List ℕ) → after outside (starts name) ≡ started outside name
unfolding after starts
after-starts outside name = refl
