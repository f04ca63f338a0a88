-- Laws of what is planned and told, so that an edit of a definition in specs/ reads and is refused by the laws that it breaks.
pub mod Planned
