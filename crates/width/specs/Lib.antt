-- Boards in rows of another width (Card 13): definitions, and the laws that boards of d up to 4 are as before. They concern the calls
-- that were there before Card 13, in document 02's order: load, the three changes and the lists of `Covered`. What comes later had
-- no rows of four costs, so it owes no law here. No crate stands on this one.
pub mod Width
pub mod Laws
