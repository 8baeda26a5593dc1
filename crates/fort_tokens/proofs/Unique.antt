-- Characters are read in one way.
use Rattle.std.proofs.Common.{◌≡◌, Bool, true, false, List, [], ◌∷◌, ◌++◌, Option, Some, refl, sym, ap, ◌∙◌, append_assoc}
use Rattle.std.proofs.lemmas.Bool.{true≢false}
use Rattle.std.proofs.lemmas.List.{append-nil}
use Rattle.fort_tree.specs.declared.place.Place.{Place}
use Rattle.fort_tokens.specs.declared.character.Char.{Char}
use Rattle.fort_tokens.specs.Reads.{Word}
use Rattle.fort_tokens.specs.Forms.{is_form}
use Rattle.fort_tokens.specs.Reads.{bytes, Cut, end, blank, token, broken, none, Longest, is_sound, word_at}
use Rattle.fort_tokens.proofs.Fronts.{within, past, compared, head-of, tail-of, cons≢nil}

cancel : (x y z : List Char) → x ++ y ≡ x ++ z → y ≡ z
cancel [] y z e = e
cancel (c ∷ x) y z e = cancel x y z (ap tail-of e)

clash : (x : Bool) → x ≡ true → x ≡ false → ⊥
clash x h k = true≢false (sym h ∙ k)

same-front : (w z x y q : List Char) → Longest w z → Longest x y → w ++ z ≡ x ++ y → w ≡ x ++ q → (w ≡ x) × (z ≡ y)
same-front w z x y [] a b e h =
    let front : w ≡ x = h ∙ append-nil x in
    (front, cancel x z y (ap (λ w. w ++ z) (sym front) ∙ e))
same-front w z x y (d ∷ q) a b e h =
    let rest : y ≡ d ∷ q ++ z = cancel x y (d ∷ q ++ z) (sym e ∙ ap (λ w. w ++ z) h ∙ append_assoc x (d ∷ q) z) in
    absurd (clash (is_form (bytes (x ++ d ∷ q))) (ap (λ w. is_form (bytes w)) (sym h) ∙ a.form) (b.most (d ∷ q) z (cons≢nil d q) rest))

-- two longest fronts of one list are equal
longest-one : (w z x y : List Char) → Longest w z → Longest x y → w ++ z ≡ x ++ y → (w ≡ x) × (z ≡ y)
longest-one w z x y a b e = elim (compared w z x y e) [
  | within q h ↦ same-front w z x y q a b e h
  | past p n h k ↦ absurd (clash (is_form (bytes (w ++ p))) (ap (λ x. is_form (bytes x)) (sym h) ∙ b.form) (a.most p y n k))
]

abbrev Same : List Word → List Word → Option Place → Option Place → Type 0
Same ts us o p = (ts ≡ us) × (o ≡ p)

no-cons : (c : Char) (x : List Char) → [] ≡ c ∷ x → ⊥
no-cons c x e = cons≢nil c x (sym e)

blank-form : (c d : Char) (w x y : List Char) → c.byte ≡ 32 → c ∷ x ≡ d ∷ y → is_form (bytes (d ∷ w)) ≡ true → ⊥
blank-form c d w x y b e f =
    let at : d.byte ≡ 32 = ap (λ x. (head-of c x).byte) (sym e) ∙ b in
    clash (is_form (bytes (d ∷ w))) f (ap (λ b. is_form (b ∷ bytes w)) at)

none-form : (c d : Char) (w x y : List Char) → ((u v : List Char) → x ≡ u ++ v → is_form (bytes (c ∷ u)) ≡ false) → c ∷ x ≡ d ∷ (w ++ y) → is_form (bytes (d ∷ w)) ≡ true → ⊥
none-form c d w x y n e f =
    clash (is_form (bytes (d ∷ w))) f (ap (λ d. is_form (bytes (d ∷ w))) (sym (ap (head-of c) e)) ∙ n w y (ap tail-of e))

sounds : (c d : Char) (w z x y : List Char) → Longest (c ∷ w) z → Longest (d ∷ x) y → c ∷ (w ++ z) ≡ d ∷ (x ++ y) → is_sound (c ∷ w) z ≡ true → is_sound (d ∷ x) y ≡ false → ⊥
sounds c d w z x y a b e h k =
    let one = longest-one (c ∷ w) z (d ∷ x) y a b e in
    clash (is_sound (d ∷ x) y) (ap (λ w. is_sound w y) (sym one.0) ∙ ap (λ z. is_sound (c ∷ w) z) (sym one.1) ∙ h) k

pub unique : {cs ds : List Char} {ts us : List Word} {o p : Option Place} → Cut cs ts o → Cut ds us p → cs ≡ ds → Same ts us o p
unique end end e = (refl, refl)
unique end (blank {rest = z} c b r) e = absurd (no-cons c z e)
unique end (token {rest = z} c w l s r) e = absurd (no-cons c (w ++ z) e)
unique end (broken {rest = z} c w l s) e = absurd (no-cons c (w ++ z) e)
unique end (none {rest = z} c b n) e = absurd (no-cons c z e)
unique (blank {rest = z} c b r) end e = absurd (no-cons c z (sym e))
unique (blank {rest = z} c b r) (blank {rest = y} d k q) e = unique r q (ap tail-of e)
unique (blank {rest = z} c b r) (token {rest = y} d w l s q) e = absurd (blank-form c d w z (w ++ y) b e l.form)
unique (blank {rest = z} c b r) (broken {rest = y} d w l s) e = absurd (blank-form c d w z (w ++ y) b e l.form)
unique (blank {rest = z} c b r) (none {rest = y} d k n) e = absurd (k (ap (λ x. (head-of c x).byte) (sym e) ∙ b))
unique (token {rest = z} c w l s r) end e = absurd (no-cons c (w ++ z) (sym e))
unique (token {rest = z} c w l s r) (blank {rest = y} d k q) e = absurd (blank-form d c w y (w ++ z) k (sym e) l.form)
unique (token {rest = z} {words = ts} c w l s r) (token {rest = y} {words = us} d x m t q) e =
    let one = longest-one (c ∷ w) z (d ∷ x) y l m e in
    let more = unique r q one.1 in
    (ap (λ a. word_at a (c ∷ w) ∷ ts) (ap (λ x. (head-of c x).at) e) ∙ ap (λ w. word_at d.at w ∷ ts) one.0 ∙ ap (λ ts. word_at d.at (d ∷ x) ∷ ts) more.0, more.1)
unique (token {rest = z} c w l s r) (broken {rest = y} d x m t) e = absurd (sounds c d w z x y l m e s t)
unique (token {rest = z} c w l s r) (none {rest = y} d k n) e = absurd (none-form d c w y z n (sym e) l.form)
unique (broken {rest = z} c w l s) end e = absurd (no-cons c (w ++ z) (sym e))
unique (broken {rest = z} c w l s) (blank {rest = y} d k q) e = absurd (blank-form d c w y (w ++ z) k (sym e) l.form)
unique (broken {rest = z} c w l s) (token {rest = y} d x m t q) e = absurd (sounds d c x y w z m l (sym e) t s)
unique (broken {rest = z} c w l s) (broken {rest = y} d x m t) e = (refl, ap (λ x. Some (head-of c x).at) e)
unique (broken {rest = z} c w l s) (none {rest = y} d k n) e = absurd (none-form d c w y z n (sym e) l.form)
unique (none {rest = z} c b n) end e = absurd (no-cons c z (sym e))
unique (none {rest = z} c b n) (blank {rest = y} d k q) e = absurd (b (ap (λ x. (head-of c x).byte) e ∙ k))
unique (none {rest = z} c b n) (token {rest = y} d w l s q) e = absurd (none-form c d w z y n e l.form)
unique (none {rest = z} c b n) (broken {rest = y} d w l s) e = absurd (none-form c d w z y n e l.form)
unique (none {rest = z} c b n) (none {rest = y} d k m) e = (refl, ap (λ x. Some (head-of c x).at) e)
