mod Header
