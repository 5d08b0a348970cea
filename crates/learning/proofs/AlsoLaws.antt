-- One news after the other. Rests on specs/News.
use mathlib.Core.Path.{◌≡◌, sym, ap, ◌∙◌}
use mathlib.Core.Bool.{Bool, true, false, ◌||◌}
use Rattle.meaning.proofs.ListLaws.{or_true, or_false, or_assoc}
use Rattle.learning.specs.News.{no_news, also, change_news}
use Rattle.learning.specs.declared.News.{News}

-- ---- news

pub also_assoc : (a b c : News) → also (also a b) c ≡ also a (also b c)
also_assoc a b c i = record {
  changed = or_assoc a.changed b.changed c.changed i;
  caption = or_assoc a.caption b.caption c.caption i;
  carousel = or_assoc a.carousel b.carousel c.carousel i;
  other = or_assoc a.other b.other c.other i;
  unlisted = or_assoc a.unlisted b.unlisted c.unlisted i;
}

-- that what is known changed, and nothing else
pub also_change : (n : News) (b : Bool) → also n (change_news b) ≡ record { changed = n.changed || b; caption = n.caption; carousel = n.carousel; other = n.other; unlisted = n.unlisted }
also_change n b i = record {
  changed = n.changed || b;
  caption = or_false n.caption i;
  carousel = or_false n.carousel i;
  other = or_false n.other i;
  unlisted = or_false n.unlisted i;
}

abbrev changed_as : News → Bool → News
changed_as n b = record { changed = b; caption = n.caption; carousel = n.carousel; other = n.other; unlisted = n.unlisted }

pub also_none : (n : News) → n ≡ also n no_news
also_none n = ap (changed_as n) (sym (or_false n.changed)) ∙ sym (also_change n false)

-- it changed
abbrev pub now_changed : News → News
now_changed n = changed_as n true

pub also_changed : (n : News) → now_changed n ≡ also n (change_news true)
also_changed n = ap (changed_as n) (sym (or_true n.changed)) ∙ sym (also_change n true)

-- what stands there is met before a change is told
pub met_changed : (n m : News) → now_changed (also n m) ≡ also n (also (change_news true) m)
met_changed n m i = record {
  changed = sym (or_true n.changed) i;
  caption = n.caption || m.caption;
  carousel = n.carousel || m.carousel;
  other = n.other || m.other;
  unlisted = n.unlisted || m.unlisted;
}
